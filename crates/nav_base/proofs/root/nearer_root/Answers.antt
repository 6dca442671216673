-- What is near the root has at most 32 binary digits, so that nothing is lost when it is moved up.
use Rattle.std.proofs.Common.{◌≡◌, ℕ, ◌+◌, ◌*◌, ◌/◌, ◌%◌, ◌^◌, ◌≤◌, ◌<◌, sym, subst, arith, lit<}
use Rattle.std.proofs.lemmas.Nat.{mul-le}
use Rattle.std.proofs.Math.Nat.{mod-eq_of_lt, pow-le-pow_right, div-le_self}
use Rattle.nav_base.specs.Root.{IsNearRoot}
use Rattle.nav_base.proofs.NearRoots.{near_step_digits, near-bound}
use Rattle.nav_base.proofs.root.nearer_root.Goals as goal

kept : (digits n near : ℕ) → digits ≤ 15 → n < 2 ^ 64 → IsNearRoot (n / 2 ^ (2 * digits + 2)) near → near * 2 ^ digits % 2 ^ 64 ≡ near * 2 ^ digits
kept digits n near few fits is =
    let small : near ≤ 2 ^ 32 = near-bound (n / 2 ^ (2 * digits + 2)) near (2 ^ 32) is (omega (arith, div-le_self n (2 ^ (2 * digits + 2)))) in
    let unit : 2 ^ digits ≤ 2 ^ 15 = pow-le-pow_right (lit< tt) few in
    mod-eq_of_lt (omega (arith, mul-le near (2 ^ digits) (2 ^ 32) (2 ^ 15) small unit))

stepped : (digits n near : ℕ) → digits ≤ 15 → n < 2 ^ 64 → 2 ^ (2 * digits) ≤ n / 2 ^ (2 * digits + 2) → IsNearRoot (n / 2 ^ (2 * digits + 2)) near
    → IsNearRoot n (near * 2 ^ digits % 2 ^ 64 + n / 2 ^ (digits + 2) / near)
stepped digits n near few fits leading is =
    subst (λ (k : ℕ). IsNearRoot n (k + n / 2 ^ (digits + 2) / near)) (sym (kept digits n near few fits is)) (near_step_digits digits n near leading is)

pub overflow_add-result-2 : goal.overflow_add-result-2
overflow_add-result-2 c =
    let root = stepped c.args.digits c.args.n c.args.near c.requires.few c.ranges.n.fits c.requires.leading c.requires.near in
    record { fits = omega (arith, near-bound c.args.n _ (2 ^ 32) root (omega (arith, c.ranges.n.fits))) }

pub returns : goal.returns
returns c = stepped c.args.digits c.args.n c.args.near c.requires.few c.ranges.n.fits c.requires.leading c.requires.near
