-- A store's refusal at the site of a call.
use Rattle.std.specs.Prelude.{Ok, Err, Result}
use Rattle.paths.specs.declared.fault.Site.{Site}
use Rattle.paths.specs.declared.fault.StoreFault.{StoreFault}
use Rattle.stores.specs.declared.faults.Located.{Located}

abbrev pub at_site : {T : Type 0} → Site → Result T StoreFault → Result T Located
at_site s (Ok x) = Ok x
at_site s (Err f) = Err (record { site = s; fault = f })
