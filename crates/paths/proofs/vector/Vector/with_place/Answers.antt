use Rattle.std.proofs.Common.{◌-◌, set, ap, sym, ◌∙◌, arith}
use Rattle.paths.proofs.Places.{put_at-set}
use Rattle.paths.proofs.vector.Vector.with_place.Goals as goal

pub returns : goal.returns
returns c =
    let v = c.args.self.places in
    let x = c.args.value in
    ap (λ i. set v i x) (omega (arith, c.index.ensures)) ∙ sym (put_at-set v (c.args.panel.number - 1) x (omega arith))
