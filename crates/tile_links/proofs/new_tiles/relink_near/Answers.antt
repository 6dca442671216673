use Rattle.std.proofs.Common.{◌∙◌, subst, sym, ⊎_elim, arith}
use Rattle.std.proofs.lemmas.Bool.{cases_eq}
use Rattle.tile_links.specs.NearTiles.{IsMarkedAcross}
use Rattle.tile_links.proofs.new_tiles.relink_near.Goals as goal

pub loop-side-preserved : goal.loop-side-preserved
loop-side-preserved c = record {
  made = c.in_ok-relink_across.ensures.made;
  kept = λ other is. c.in_ok-relink_across.ensures.kept other (c.loop-side.invariant.kept other is);
  own = c.in_ok-relink_across.ensures.kept c.args.tile c.loop-side.invariant.own;
  beside = λ side below other is. ⊎_elim
      (λ same. subst (λ s. IsMarkedAcross c.args.tiled.setting.now c.relink_across.new.made.done.items c.args.tile s) (c.of.ensures ∙ sym same) c.in_ok-relink_across.ensures.marked other is)
      (λ apart. c.in_ok-relink_across.ensures.kept other (c.loop-side.invariant.beside side (omega (arith, below, apart)) other is))
      (cases_eq side c.loop-side.side);
}
