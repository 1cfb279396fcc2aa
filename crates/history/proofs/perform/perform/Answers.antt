use Rattle.std.proofs.Common.{rules}
use Rattle.history.proofs.Continuing.{continues}
use Rattle.history.proofs.perform.perform.Goals as goal

pub returns-in-Write-clause-law : goal.returns-in-Write-clause-law
returns-in-Write-clause-law g c = continues _ _ _ c.args.request _ _ c.map.result c.requires (search rules)

pub returns-in-Remove-clause-law : goal.returns-in-Remove-clause-law
returns-in-Remove-clause-law g c = continues _ _ _ c.args.request _ _ c.map-in-Remove.result c.requires (search rules)

pub returns-in-Sync-clause-law : goal.returns-in-Sync-clause-law
returns-in-Sync-clause-law g c = continues _ _ _ c.args.request _ _ c.map-in-Sync.result c.requires (search rules)

pub returns-in-Inspect-clause-law : goal.returns-in-Inspect-clause-law
returns-in-Inspect-clause-law g c = continues _ _ _ c.args.request _ _ c.map-in-Inspect.result c.requires (search rules)

pub returns-in-Resolve-clause-law : goal.returns-in-Resolve-clause-law
returns-in-Resolve-clause-law g c = continues _ _ _ c.args.request _ _ c.map-in-Resolve.result c.requires (search rules)
