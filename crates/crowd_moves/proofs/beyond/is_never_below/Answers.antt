use Rattle.std.proofs.Common.{◌≡◌, false, ℤ, pos, ◌+ℤ◌, ◌*ℤ◌, ◌≤ℤ◌, ◌<ℤ◌, IsTrue, refl, rules, w64, to_z, of_z, arith}
use Rattle.std.specs.Prelude.{neg_ℤ, int_le}
use Rattle.std.proofs.lemmas.Int.{ints}
use Rattle.crowd_moves.proofs.BeyondLaws.{begins_below, goes_apart, at_end, nearest_at_end, nearest_between, between_is}
use Rattle.crowd_moves.proofs.Readings.{product_reads}
use Rattle.crowd_moves.proofs.beyond.is_never_below.Goals as goal

pub returns-then-c-lt0 : goal.returns-then-c-lt0
returns-then-c-lt0 c =
    let below : c.args.c <ℤ pos 0 = grind (arith, ints) in
    (λ never. absurd (both never), λ keeps. absurd (begins_below c.args.c c.args.b c.args.w below keeps))
  where
    both : IsTrue false → ⊥
    both h = cc

pub returns-then-b-ge0 : goal.returns-then-b-ge0
returns-then-b-ge0 c =
    let first : pos 0 ≤ℤ c.args.c = grind (arith, ints) in
    let apart : pos 0 ≤ℤ c.args.b = grind (arith, ints) in
    (λ passes. goes_apart c.args.c c.args.b c.args.w first apart c.requires.square, λ keeps. refl)

-- what the test of a number says, where it is read from a value
not_below : (read n : ℤ) → read ≡ n → IsTrue (int_le (pos 0) read) → pos 0 ≤ℤ n
not_below read n is test = grind (arith, ints)

passes_where : (read n : ℤ) → read ≡ n → pos 0 ≤ℤ n → IsTrue (int_le (pos 0) read)
passes_where read n is most = grind (arith, ints)

pub returns-then-b-w : goal.returns-then-b-w
returns-then-b-w c =
    let near : c.args.w ≤ℤ neg_ℤ c.args.b = grind (arith, ints) in
    let end : to_z w64 (of_z w64 c.at_end.result) ≡ c.args.w +ℤ pos 2 *ℤ c.args.b +ℤ c.args.c = omega (arith, ints, c.at_end.ensures, c.requires.first, c.requires.second, c.requires.third) in (
      λ passes. nearest_at_end c.args.c c.args.b c.args.w c.requires.square near (not_below _ _ end passes),
      λ keeps. passes_where _ _ end (at_end c.args.c c.args.b c.args.w keeps),
    )

pub returns : goal.returns
returns c =
    let back : c.args.b <ℤ pos 0 = grind (arith, ints) in
    let within : neg_ℤ c.args.b <ℤ c.args.w = grind (arith, ints) in
    let some : pos 0 <ℤ c.args.w = omega (arith, ints) in
    let square = product_reads c.product.result c.args.b c.args.b (search rules) c.requires.second c.requires.second c.product.ensures in
    let room = product_reads c.product-2.result c.args.w c.args.c (search rules) c.requires.third c.requires.first c.product-2.ensures in (
      λ passes. nearest_between c.args.c c.args.b c.args.w some (held _ _ _ _ square room passes),
      λ keeps. passed _ _ _ _ square room (between_is c.args.c c.args.b c.args.w back within keeps),
    )
  where
    held : (x y m n : ℤ) → x ≡ m → y ≡ n → IsTrue (int_le x y) → m ≤ℤ n
    held x y m n e f h = grind (arith, ints)

    passed : (x y m n : ℤ) → x ≡ m → y ≡ n → m ≤ℤ n → IsTrue (int_le x y)
    passed x y m n e f h = grind (arith, ints)
