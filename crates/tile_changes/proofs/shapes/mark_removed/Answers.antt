use Rattle.std.proofs.Common.{◌≡◌, true, refl, sym, ap, ◌∙◌, ◌&&◌, arith}
use Rattle.std.proofs.lemmas.Bool.{and_from, eq-eqb}
use Rattle.nav_ground.specs.History.{is_removal_of, is_removed, is_removing}
use Rattle.tile_changes.proofs.shapes.mark_removed.Goals as goal

pub index_mut-requires : goal.index_mut-requires
index_mut-requires c =
    let number = c.in-Remove.number in
    let removes : is_removal_of number c.args.entry.now ≡ true =
    ap (λ request. is_removing number request && is_removed c.args.entry.now.reply) c.in-Remove.is
    ∙ and_from _ _ (eq-eqb number number refl) (sym c.is_removed.ensures ∙ c.if-is_removed.true) in
    omega (arith, c.requires number removes, c.if-number-since.true)
