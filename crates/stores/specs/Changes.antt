-- The changes of a store.
use Rattle.paths.specs.declared.path.Path.{Path}
use Rattle.stores.specs.declared.entry.Entry.{Entry}

pub data Change : Type 0 where
  puts : Path → Entry → Change
  drops : Path → Change
  ticks : Change
