-- Fine steps are 256 to a step: a number tells the fine number to half a step, and the fine number tells the number, but half way between two.
use Rattle.std.proofs.Common.{◌≡◌, ℕ, ◌+◌, ◌*◌, ◌/◌, ◌%◌, ◌^◌, ◌<◌, ◌≤◌, Bool, true, false, sym, ap, ◌∙◌, subst, inl, inr, arith, pow_pos, pow-add, mul_assoc, mul-le-mul_right, ℤ, pos, ◌+ℤ◌, ◌*ℤ◌, ◌-ℤ◌, ◌≤ℤ◌, w64, to_z, of_z, Option, Some, None, IfSome, IsNone}
use native.Mathlib.Nat.{mul_comm, add_comm, mul_left_comm, add-mul, one-mul, eq_of_mul-eq-mul_right}
use Rattle.std.proofs.Math.Nat.{mod-add-div, mod-lt}
use Rattle.std.proofs.lemmas.Bool.{cases_lt}
use Rattle.std.specs.Float.{Float}
use Rattle.std.specs.Int.RustNames.{unsigned_abs}
use Rattle.std.proofs.lemmas.Int.{ints}
use Rattle.world_grid.specs.Grid.{IsNearest, IsSteps, IsStepOf, length_of, signed}
use Rattle.world_grid.specs.declared.grid_step.GridStep.{GridStep}
use Rattle.world_grid.proofs.ValueLaws.{one_value}
use Rattle.world_grid.proofs.NearestLaws.{Nears, nears, is_nearest}
use Rattle.world_grid.proofs.StepLaws.{length_pos, one_steps}
use Rattle.world_grid.proofs.Readings.{reads}
use Rattle.mesh_input.specs.declared.grid.MeshAxis.{MeshAxis}
use Rattle.mesh_input.specs.Axes.{IsOnAxis, LiesOnAxis, IsFineAt, IsFineChange}

-- the step of a size has 256 of the steps that are 2^8 times finer
pub finer_length : (size : Float) (k : ℕ) (a b : GridStep) → IsStepOf size k a → IsStepOf size (k + 8) b → length_of a ≡ 256 * length_of b
finer_length size k a b p q =
    eq_of_mul-eq-mul_right (2 ^ k) (pow_pos k) (length_of a) (256 * length_of b) ((one_value size false false _ _ (2 ^ 149) p.value q.value).1 ∙ regroup (length_of b) (2 ^ k) (2 ^ (k + 8)) (pow-add 2 k 8))
  where
    regroup : (l x y : ℕ) → y ≡ x * 256 → l * y ≡ 256 * l * x
    regroup l x y e =
        let moved : l * (x * 256) ≡ 256 * l * x = simp (mul_assoc, mul_comm, mul_left_comm) in
        ap (λ (z : ℕ). l * z) e ∙ moved

-- a number of steps and a number of fine ones, of one float
fine_most : (a d n m : ℕ) → 0 < d → IsNearest a (256 * d) n → IsNearest a d m → m ≤ 256 * n + 128
fine_most a d n m some p q = omega (arith, too_far)
  where
    too_far : 256 * n + 128 < m → ⊥
    too_far far =
        let coarse = nears a (256 * d) n p in
        let fine = nears a d m q in
        let below = coarse.below in
        let above = fine.above in
        let same : n * (256 * d) ≡ 256 * (n * d) = mul_left_comm n 256 d in
        let more : (256 * n + 129) * d ≤ m * d = mul-le-mul_right d (omega (arith, far)) in
        let opened : (256 * n + 129) * d ≡ 256 * (n * d) + 129 * d = add-mul (256 * n) 129 d ∙ ap (λ (z : ℕ). z + 129 * d) (mul_assoc 256 n d) in
        omega (arith, below, above, same, more, opened, some)

fine_least : (a d n m : ℕ) → 0 < d → IsNearest a (256 * d) n → IsNearest a d m → 256 * n ≤ m + 128
fine_least a d n m some p q = omega (arith, too_far)
  where
    too_far : m + 128 < 256 * n → ⊥
    too_far far =
        let coarse = nears a (256 * d) n p in
        let fine = nears a d m q in
        let above = coarse.above in
        let below = fine.below in
        let same : n * (256 * d) ≡ 256 * (n * d) = mul_left_comm n 256 d in
        let more : (m + 129) * d ≤ 256 * n * d = mul-le-mul_right d (omega (arith, far)) in
        let opened : (m + 129) * d ≡ m * d + 129 * d = add-mul m 129 d in
        let turned : 256 * n * d ≡ 256 * (n * d) = mul_assoc 256 n d in
        omega (arith, below, above, same, more, opened, turned, some)

-- the same with signs
pub record IsFineOf (n m : ℤ) : Type 0 where
  pub near : unsigned_abs (m -ℤ pos 256 *ℤ n) ≤ 128

signed_near : (s : Bool) (a b : ℕ) (n m : ℤ) → n ≡ signed s a → m ≡ signed s b → b ≤ 256 * a + 128 → 256 * a ≤ b + 128 → unsigned_abs (m -ℤ pos 256 *ℤ n) ≤ 128
signed_near false a b n m p q h k = omega (arith, ints)
signed_near true a b n m p q h k = omega (arith, ints)

pub fine_of : (x : Float) (step fine : GridStep) (n m : ℤ) → length_of step ≡ 256 * length_of fine → IsSteps x step n → IsSteps x fine m → unsigned_abs (m -ℤ pos 256 *ℤ n) ≤ 128
fine_of x step fine n m finer p q =
    let one = one_value x p.negative q.negative p.size q.size (2 ^ 149) p.value q.value in
    let coarse = subst (λ (l : ℕ). IsNearest p.size l (unsigned_abs n)) finer p.nearest in
    let small = subst (λ (a : ℕ). IsNearest a (length_of fine) (unsigned_abs m)) (sym one.1) q.nearest in
    signed_near p.negative (unsigned_abs n) (unsigned_abs m) n m p.sign (subst (λ (s : Bool). m ≡ signed s (unsigned_abs m)) (sym one.0) q.sign)
    (fine_most p.size (length_of fine) (unsigned_abs n) (unsigned_abs m) (length_pos fine) coarse small)
    (fine_least p.size (length_of fine) (unsigned_abs n) (unsigned_abs m) (length_pos fine) coarse small)

-- and back: fine steps that are less than half a step away tell the number of steps
coarse_near : (a d m n : ℕ) → 0 < d → 256 * n ≤ m + 127 → m ≤ 256 * n + 127 → IsNearest a d m → IsNearest a (256 * d) n
coarse_near a d m n some low high h =
    let near = nears a d m h in
    let below = near.below in
    let above = near.above in
    let less : 256 * n * d ≤ (m + 127) * d = mul-le-mul_right d low in
    let more : m * d ≤ (256 * n + 127) * d = mul-le-mul_right d high in
    let one : 256 * n * d ≡ 256 * (n * d) = mul_assoc 256 n d in
    let two : (m + 127) * d ≡ m * d + 127 * d = add-mul m 127 d in
    let three : (256 * n + 127) * d ≡ 256 * (n * d) + 127 * d = add-mul (256 * n) 127 d ∙ ap (λ (z : ℕ). z + 127 * d) (mul_assoc 256 n d) in
    let least : 256 * (n * d) ≤ m * d + 127 * d = omega (arith, less, one, two) in
    let most : m * d ≤ 256 * (n * d) + 127 * d = omega (arith, more, three) in
    is_nearest a (256 * d) n (subst (λ (z : ℕ). Nears a (256 * d) z n) (sym (mul_left_comm n 256 d)) (clear a d (m * d) (n * d) n some below above least most))
  where
    clear : (a d x y n : ℕ) → 0 < d → 2 * a ≤ 2 * x + d → 2 * x ≤ 2 * a + d → 256 * y ≤ x + 127 * d → x ≤ 256 * y + 127 * d → Nears a (256 * d) (256 * y) n
    clear a d x y n some below above least most = record {
      below = omega arith;
      above = omega arith;
      even = λ tie. absurd (elim tie [ inl p ↦ omega (arith, p) | inr p ↦ omega (arith, p) ]);
    }

coarse_least : (f k : ℤ) → unsigned_abs (f -ℤ pos 256 *ℤ k) ≤ 127 → 256 * unsigned_abs k ≤ unsigned_abs f + 127
coarse_least f k near = omega (arith, ints)

coarse_most : (f k : ℤ) → unsigned_abs (f -ℤ pos 256 *ℤ k) ≤ 127 → unsigned_abs f ≤ 256 * unsigned_abs k + 127
coarse_most f k near = omega (arith, ints)

coarse_sign : (s : Bool) (f k : ℤ) → f ≡ signed s (unsigned_abs f) → unsigned_abs (f -ℤ pos 256 *ℤ k) ≤ 127 → k ≡ signed s (unsigned_abs k)
coarse_sign false f k e near = omega (arith, ints)
coarse_sign true f k e near = omega (arith, ints)

steps_coarse : (x : Float) (step fine : GridStep) (f k : ℤ) → length_of step ≡ 256 * length_of fine → unsigned_abs (f -ℤ pos 256 *ℤ k) ≤ 127 → IsSteps x fine f → IsSteps x step k
steps_coarse x step fine f k finer near h = record {
  negative = h.negative;
  size = h.size;
  value = h.value;
  nearest = subst (λ (l : ℕ). IsNearest h.size l (unsigned_abs k)) (sym finer)
      (coarse_near h.size (length_of fine) (unsigned_abs f) (unsigned_abs k) (length_pos fine) (coarse_least f k near) (coarse_most f k near) h.nearest);
  sign = coarse_sign h.negative f k h.sign near;
}

-- a fine number that is not half way between two numbers of an axis tells the number
within : (begin : ℤ) (fine : ℕ) → ¬ (fine % 256 ≡ 0) → unsigned_abs (pos 256 *ℤ begin +ℤ pos fine -ℤ pos 128 -ℤ pos 256 *ℤ (begin +ℤ pos (fine / 256))) ≤ 127
within begin fine some = omega (arith, ints)

number_near : (begin : ℤ) (fine : ℕ) → unsigned_abs begin < 2 ^ 23 → (pos 256 *ℤ begin +ℤ pos fine) ≤ℤ pos (2 ^ 31) → ¬ (fine % 256 ≡ 0) → unsigned_abs (begin +ℤ pos (fine / 256)) < 2 ^ 23
number_near begin fine near most some = omega (arith, ints)

number_inside : (fine last : ℕ) → fine ≤ 256 * last + 256 → ¬ (fine % 256 ≡ 0) → fine / 256 ≤ last
number_inside fine last most some = omega arith

pub number_found : (x : Float) (axis : MeshAxis) (fine : ℕ) → IsFineAt x axis fine → fine ≤ 256 * axis.last + 256 → (pos 256 *ℤ axis.begin +ℤ pos fine) ≤ℤ pos (2 ^ 31) → ¬ (fine % 256 ≡ 0)
    → IsOnAxis x axis (fine / 256)
number_found x axis fine at inside near some = record {
  steps = steps_coarse x axis.step axis.fine _ (axis.begin +ℤ pos (fine / 256)) axis.finer (within axis.begin fine some) at.steps;
  near = number_near axis.begin fine axis.near near some;
  inside = number_inside fine axis.last inside some;
}

-- there is a whole number nearest to a fraction, so a float has fine steps
record HasNearest (a d : ℕ) : Type 0 where
  n : ℕ
  is : IsNearest a d n

down : (a d q x r : ℕ) → 0 < d → a ≡ x + r → 2 * r ≤ d → (2 * r ≡ d → q % 2 ≡ 0) → Nears a d x q
down a d q x r some e few even = record {
  below = omega (arith, e, few);
  above = omega (arith, e);
  even = λ tie. elim tie [ inl p ↦ even (omega (arith, p, e)) | inr p ↦ absurd (omega (arith, p, e, some)) ];
}

up : (a d q x r : ℕ) → 0 < d → a ≡ x + r → r < d → d ≤ 2 * r → (2 * r ≡ d → (q + 1) % 2 ≡ 0) → Nears a d (x + d) (q + 1)
up a d q x r some e less many even = record {
  below = omega (arith, e, less);
  above = omega (arith, e, many);
  even = λ tie. elim tie [ inl p ↦ absurd (omega (arith, p, e, less)) | inr p ↦ even (omega (arith, p, e)) ];
}

nearest_there : (a d : ℕ) → 0 < d → HasNearest a d
nearest_there a d some =
    elim (cases_lt (2 * r) d) [
      | inl less ↦ at_down (omega (arith, less)) (λ e. absurd (omega (arith, e, less)))
      | inr more ↦ elim (cases_lt (q % 2) 1) [
        | inl even ↦ elim (cases_lt d (2 * r)) [
          | inl far ↦ at_up (omega (arith, far)) (λ e. absurd (omega (arith, e, far)))
          | inr tie ↦ at_down tie (λ e. omega (arith, even))
        ]
        | inr odd ↦ at_up more (λ e. omega (arith, odd))
      ]
    ]
  where
    q : ℕ
    q = a / d

    r : ℕ
    r = a % d

    whole : a ≡ q * d + r
    whole = sym (mod-add-div a d) ∙ add_comm r (d * q) ∙ ap (λ (z : ℕ). z + r) (mul_comm d q)

    at_down : 2 * r ≤ d → (2 * r ≡ d → q % 2 ≡ 0) → HasNearest a d
    at_down few even = record { n = q; is = is_nearest a d q (down a d q (q * d) r some whole few even) }

    at_up : d ≤ 2 * r → (2 * r ≡ d → (q + 1) % 2 ≡ 0) → HasNearest a d
    at_up many even = record {
      n = q + 1;
      is = is_nearest a d (q + 1) (subst (λ (z : ℕ). Nears a d z (q + 1)) (sym (add-mul q 1 d ∙ ap (λ (z : ℕ). q * d + z) (one-mul d))) (up a d q (q * d) r some whole (mod-lt a some) many even));
    }

size_of_signed : (s : Bool) (n : ℕ) → unsigned_abs (signed s n) ≡ n
size_of_signed false n = omega (arith, ints)
size_of_signed true n = omega (arith, ints)

record HasFine (x : Float) (axis : MeshAxis) : Type 0 where
  steps : ℤ
  is : IsSteps x axis.fine steps

fine_there : (x : Float) (axis : MeshAxis) (n : ℤ) → IsSteps x axis.step n → HasFine x axis
fine_there x axis n h =
    let near = nearest_there h.size (length_of axis.fine) (length_pos axis.fine) in
    let same = sym (size_of_signed h.negative near.n) in
    record {
      steps = signed h.negative near.n;
      is = record {
        negative = h.negative;
        size = h.size;
        value = h.value;
        nearest = subst (λ (k : ℕ). IsNearest h.size (length_of axis.fine) k) same near.is;
        sign = ap (λ (k : ℕ). signed h.negative k) same;
      };
    }

-- what has too many fine steps, or too few behind the beginning, lies outside
too_far : (n m : ℤ) → unsigned_abs (m -ℤ pos 256 *ℤ n) ≤ 128 → unsigned_abs n < 2 ^ 23 → 2147483521 ≤ unsigned_abs m → ⊥
too_far n m near small far = omega (arith, ints)

pub fine_far : (x : Float) (axis : MeshAxis) → ((m : ℤ) → IsSteps x axis.fine m → 2147483521 ≤ unsigned_abs m) → ¬ LiesOnAxis x axis
fine_far x axis far on =
    let there = fine_there x axis (axis.begin +ℤ pos on.at) on.is.steps in
    too_far (axis.begin +ℤ pos on.at) there.steps (fine_of x axis.step axis.fine _ there.steps axis.finer on.is.steps there.is) on.is.near (far there.steps there.is)

behind_few : (begin steps : ℤ) (n last : ℕ) → unsigned_abs (steps -ℤ pos 256 *ℤ (begin +ℤ pos n)) ≤ 128 → n ≤ last → unsigned_abs (steps +ℤ pos 128 -ℤ pos 256 *ℤ begin) ≤ 256 * last + 256
behind_few begin steps n last near inside = omega (arith, ints)

behind_is : (begin steps : ℤ) (n : ℕ) → unsigned_abs (steps -ℤ pos 256 *ℤ (begin +ℤ pos n)) ≤ 128 → steps +ℤ pos 128 ≡ pos 256 *ℤ begin +ℤ pos (unsigned_abs (steps +ℤ pos 128 -ℤ pos 256 *ℤ begin))
behind_is begin steps n near = omega (arith, ints)

fine_outside : (x : Float) (axis : MeshAxis) (steps : ℤ) → IsSteps x axis.fine steps
    → ((fine : ℕ) → fine ≤ 256 * axis.last + 256 → ¬ (steps +ℤ pos 128 ≡ pos 256 *ℤ axis.begin +ℤ pos fine)) → ¬ LiesOnAxis x axis
fine_outside x axis steps is none on =
    let near = fine_of x axis.step axis.fine (axis.begin +ℤ pos on.at) steps axis.finer on.is.steps is in
    none _ (behind_few axis.begin steps on.at axis.last near on.is.inside) (behind_is axis.begin steps on.at near)

fine_same : (begin steps : ℤ) (fine : ℕ) → steps +ℤ pos 128 ≡ pos 256 *ℤ begin +ℤ pos fine → steps ≡ pos 256 *ℤ begin +ℤ pos fine -ℤ pos 128
fine_same begin steps fine e = omega (arith, ints)

-- the same of what the code reads
module _ (x : Float) (axis : MeshAxis) (steps : ℤ) (few : unsigned_abs steps < 2147483521) where
  steps_reads : to_z w64 (of_z w64 steps) ≡ steps
  steps_reads = reads steps (omega (arith, few))

  begin_reads : to_z w64 (of_z w64 axis.begin) ≡ axis.begin
  begin_reads = reads axis.begin (omega (arith, axis.near))

  pub fine_found : (r : Option ℕ) → IsSteps x axis.fine steps
      → IfSome r (λ (fine : ℕ). to_z w64 (of_z w64 steps) +ℤ pos 128 ≡ pos 256 *ℤ to_z w64 (of_z w64 axis.begin) +ℤ pos fine) → IfSome r (IsFineAt x axis)
  fine_found None is e = tt
  fine_found (Some fine) is e = record {
    steps = subst (λ (z : ℤ). IsSteps x axis.fine z)
        (fine_same axis.begin steps fine (ap (λ (z : ℤ). z +ℤ pos 128) (sym steps_reads) ∙ e ∙ ap (λ (z : ℤ). pos 256 *ℤ z +ℤ pos fine) begin_reads)) is;
  }

  pub fine_none : (r : Option ℕ) → IsSteps x axis.fine steps
      → (IsNone r → (fine : ℕ) → fine ≤ 256 * axis.last + 256 → ¬ (to_z w64 (of_z w64 steps) +ℤ pos 128 ≡ pos 256 *ℤ to_z w64 (of_z w64 axis.begin) +ℤ pos fine))
      → IsNone r → ¬ LiesOnAxis x axis
  fine_none r is none e =
      fine_outside x axis steps is
      (λ fine inside same. none e fine inside (ap (λ (z : ℤ). z +ℤ pos 128) steps_reads ∙ same ∙ ap (λ (z : ℤ). pos 256 *ℤ z +ℤ pos fine) (sym begin_reads)))

-- how far two places of an axis are apart on the fine grid
same_steps : (x : Float) (step : GridStep) (m n : ℤ) → IsSteps x step m → IsSteps x step n → m ≡ n
same_steps x step m n p q = one_steps x step q.negative q.size (unsigned_abs n) m q.value q.nearest p ∙ sym q.sign

moved_by : (begin : ℤ) (m n : ℕ) (change : ℤ) → pos n ≡ pos m +ℤ change → pos 256 *ℤ begin +ℤ pos n -ℤ pos 128 ≡ pos 256 *ℤ begin +ℤ pos m -ℤ pos 128 +ℤ change
moved_by begin m n change e = omega (arith, ints)

one_change : (begin : ℤ) (m n : ℕ) (change other begins : ℤ) → pos n ≡ pos m +ℤ change → begins ≡ pos 256 *ℤ begin +ℤ pos m -ℤ pos 128 → begins +ℤ other ≡ pos 256 *ℤ begin +ℤ pos n -ℤ pos 128 → other ≡ change
one_change begin m n change other begins e f g = omega (arith, ints)

module _ (from to : Float) (axis : MeshAxis) (m n : ℕ) (change : ℤ) (starts : IsFineAt from axis m) (ends : IsFineAt to axis n) (e : pos n ≡ pos m +ℤ change) where
  pub change_is : IsFineChange from to axis change
  change_is = record {
    begins = pos 256 *ℤ axis.begin +ℤ pos m -ℤ pos 128;
    from_is = starts.steps;
    to_is = subst (λ (z : ℤ). IsSteps to axis.fine z) (moved_by axis.begin m n change e) ends.steps;
  }

  pub change_only : (other : ℤ) → IsFineChange from to axis other → other ≡ change
  change_only other h =
      one_change axis.begin m n change other h.begins e (same_steps from axis.fine _ _ h.from_is starts.steps) (same_steps to axis.fine _ _ h.to_is ends.steps)

-- few sixteenths are few cells
pub few_cells : (n : ℤ) → unsigned_abs (pos 16 *ℤ n) < 2 ^ 23 → unsigned_abs n < 2 ^ 23
few_cells n h = omega (arith, ints)
