use Rattle.std.proofs.Common.{◌≡◌, ◌≤◌, List, ◌++◌, length, drop, replicate, sym, ap, ◌∙◌, refl, arith}
use Rattle.std.proofs.lemmas.List.{drop-replicate, length-append, length-drop, length-replicate}
use Rattle.std.proofs.Math.Seq.{drop-append_seam}
use Rattle.nav_base.specs.declared.point.Point.{Point}
use Rattle.mesh_types.specs.Inline.{IsInline, origin}
use Rattle.mesh_types.proofs.polygon.Corners.from_slice.Goals as goal

-- points over the front of six places
inline : (points new : List Point) (six : List Point) → six ≡ replicate 6 origin → length new ≡ length points → length points ≤ 6
    → IsInline (record { points = new ++ drop (length points) six; count = length points })
inline points new six is same few = record {
  few = few;
  size =
      let six' : length six ≡ 6 = ap length is ∙ length-replicate 6 origin in
      omega (arith, length-append new (drop (length points) six), length-drop (length points) six, six', same, few);
  rest =
      ap (λ n. drop n (new ++ drop (length points) six)) (sym same)
      ∙ drop-append_seam new (drop (length points) six)
      ∙ ap (drop (length points)) is
      ∙ drop-replicate (length points) 6 origin;
}

pub invariant_of-result : goal.invariant_of-result
invariant_of-result c =
    inline c.args.points.now c.copy_from_slice.new.self _ refl (ap length c.copy_from_slice.ensures.after) c.requires
