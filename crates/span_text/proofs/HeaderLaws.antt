-- The laws of the header's lines: what is read is spelled so, and what is spelled so is read.
use Rattle.std.proofs.Common.{zero, suc, ⊎_elim, inl, inr, ◌⊎◌, ◌≡◌, ℕ, ◌<◌, ◌≤◌, ◌*◌, ◌^◌, Bool, true, false, cond, not, ◌||◌, ◌&&◌, ◌==◌, nat_lt, nat_le, bytes_eq, List, [], ◌∷◌, slice_index, codes, Option, Some, None, Result, Ok, Err, refl, ap, ap₂, ◌∙◌, sym, subst, arith}
use Rattle.std.specs.Prelude.{MatchResult, if◌then◌else◌, is_ok}
use Rattle.std.specs.Option.{option_map_or}
use Rattle.std.proofs.lemmas.Bool.{both_ways, or_parts, ltb-false}
use Rattle.std.proofs.lemmas.Bool.Decides.{nat_tests}
use Rattle.std.proofs.lemmas.Slice.Eq.{bytes_eq-Decides}
use Rattle.nav_ground.specs.declared.setting.Agent.{Agent}
use Rattle.nav_ground.specs.declared.setting.MeshKind.{MeshKind}
use Rattle.nav_ground.specs.declared.setting.MeshKind.TheVariants.{Strips, Contours}
use Rattle.nav_ground.specs.Limits.{IsAgent}
use Rattle.nav_text.specs.declared.fault.FaultKind.{FaultKind}
use Rattle.nav_text.specs.declared.fault.TextFault.{TextFault}
use Rattle.nav_text.specs.declared.fault.FaultKind.TheVariants.{Form, Range, Climb}
use Rattle.nav_text.specs.Forms.{line_text, numbers_of}
use Rattle.nav_text.proofs.FormLaws.{numbers_take, numbers_again}
use Rattle.nav_text.proofs.Inversions.{ok_is, unless, one_is, two_is, three_is}
use Rattle.span_text.specs.declared.front.TextForm.{TextForm}
use Rattle.span_text.specs.declared.front.TextForm.TheVariants.{First, Second}
use Rattle.span_text.specs.FieldText.{mesh_text, nav_text}
use Rattle.span_text.specs.Header.{nav_line, size_line, limited, agent_line, mesh_line, clear_in, clear_line}
use Rattle.nav_ground.specs.Shapes.{is_in}
use Rattle.span_text.specs.Words.{agent_with}

-- what the numbers of a `size` line, of a line of one number and of an `agent` line say
abbrev size_in : Option (List ℕ) → Result (ℕ × ℕ) FaultKind
size_in read = option_map_or (λ (numbers : List ℕ).
    if not (is_in 1 1024 (slice_index numbers 0)) || not (is_in 1 1024 (slice_index numbers 1)) then Err Range else Ok (slice_index numbers 0, slice_index numbers 1)) read (Err Form)

abbrev number_in : ℕ → ℕ → Option (List ℕ) → Result ℕ FaultKind
number_in low high read = option_map_or (λ (numbers : List ℕ). if not (is_in low high (slice_index numbers 0)) then Err Range else Ok (slice_index numbers 0)) read (Err Form)

abbrev agent_in : Option (List ℕ) → Result Agent FaultKind
agent_in read = option_map_or (λ (numbers : List ℕ).
    if not (is_in 1 255 (slice_index numbers 0)) || nat_lt 254 (slice_index numbers 1) || nat_lt 15 (slice_index numbers 2) then Err Range
    else (if nat_le (slice_index numbers 0) (slice_index numbers 1) then Err Climb else Ok (agent_with (slice_index numbers 0) (slice_index numbers 1) (slice_index numbers 2)))) read (Err Form)

in_range : (low high n : ℕ) → not (is_in low high n) ≡ false → (low ≤ n) × (n ≤ high)
in_range low high n h = grind (arith, nat_tests)

range_in : (low high n : ℕ) → low ≤ n → n ≤ high → not (is_in low high n) ≡ false
range_in low high n least most = grind (arith, nat_tests)

-- a line that spells one of two values
either_takes : {A : Type 0} (text : A → List ℕ) (first second value : A) (line : List ℕ)
    → ◌≡◌ {A = Result A FaultKind} (cond (bytes_eq line (text first)) (Ok first) (cond (bytes_eq line (text second)) (Ok second) (Err Form))) (Ok value) → line ≡ text value
either_takes {A} text first second value line e =
    ⊎_elim
    (λ one. (bytes_eq-Decides line (text first)).0 one.0 ∙ ap text one.1)
    (λ two. (bytes_eq-Decides line (text second)).0 two.0 ∙ ap text two.1)
    (by_tests (bytes_eq line (text first)) (bytes_eq line (text second)) e)
  where
    by_tests : (one two : Bool) → ◌≡◌ {A = Result A FaultKind} (cond one (Ok first) (cond two (Ok second) (Err Form))) (Ok value)
        → ((one ≡ true) × (first ≡ value)) ⊎ ((two ≡ true) × (second ≡ value))
    by_tests true two e = inl (refl, ok_is e)
    by_tests false true e = inr (refl, ok_is e)
    by_tests false false e = absurd cc

-- `nav`
pub nav_takes : (line : List ℕ) (form : TextForm) → nav_line line ≡ Ok form → line ≡ nav_text form
unfolding nav_line
nav_takes line form e = either_takes nav_text First Second form line e

pub nav_again : (form : TextForm) → nav_line (nav_text form) ≡ Ok form
unfolding nav_line
nav_again First = refl
nav_again Second = refl

-- `size`
pub record IsSize (width depth : ℕ) : Type 0 where
  pub wide : 1 ≤ width
  pub width_most : width ≤ 1024
  pub deep : 1 ≤ depth
  pub depth_most : depth ≤ 1024

pub size_takes : (line : List ℕ) (size : ℕ × ℕ) → size_line line ≡ Ok size → (line ≡ line_text (codes "size") (size.0 ∷ size.1 ∷ [])) × IsSize size.0 size.1
unfolding size_line
size_takes line size e = of_numbers (numbers_of (codes "size") 2 line) refl e
  where
    of_numbers : (numbers : Option (List ℕ)) → numbers_of (codes "size") 2 line ≡ numbers → size_in numbers ≡ Ok size
        → (line ≡ line_text (codes "size") (size.0 ∷ size.1 ∷ [])) × IsSize size.0 size.1
    of_numbers None is h = absurd cc
    of_numbers (Some numbers) is h =
        let form = numbers_take (codes "size") 2 line numbers is in
        let told = unless (not (is_in 1 1024 (slice_index numbers 0)) || not (is_in 1 1024 (slice_index numbers 1))) Range (Ok (slice_index numbers 0, slice_index numbers 1)) size h in
        let tests = or_parts _ _ told.0 in
        let width = in_range 1 1024 (slice_index numbers 0) tests.0 in
        let depth = in_range 1 1024 (slice_index numbers 1) tests.1 in
        let P : ℕ × ℕ → Type 0 = λ s. (line ≡ line_text (codes "size") (s.0 ∷ s.1 ∷ [])) × IsSize s.0 s.1 in
        subst P (ok_is told.1) (
          form.0 ∙ ap (line_text (codes "size")) (two_is numbers form.1),
          record { wide = width.0; width_most = width.1; deep = depth.0; depth_most = depth.1 },
        )

-- the size that a line was read as, where the fault of another line was told in other words
pub size_most : (line : List ℕ) (read : Result (ℕ × ℕ) FaultKind) (told : Result (ℕ × ℕ) TextFault) (R : FaultKind → Type 0) (width depth : ℕ)
    → read ≡ size_line line → MatchResult read (λ x. told ≡ Ok x) R → is_ok told ≡ is_ok read → told ≡ Ok (width, depth)
    → (width ≤ 1024) × (depth ≤ 1024)
size_most line (Ok size) told R width depth is cases variant was =
    let sizes : size ≡ (width, depth) = cc (cases, was) in
    let same : size_line line ≡ Ok (width, depth) = sym is ∙ ap Ok sizes in
    let most = (size_takes line (width, depth) same).1 in (most.width_most, most.depth_most)
size_most line (Err kind) told R width depth is cases variant was = absurd (both_ways (is_ok told) variant (ap is_ok was))

pub size_again : (width depth : ℕ) → IsSize width depth → size_line (line_text (codes "size") (width ∷ depth ∷ [])) ≡ Ok (width, depth)
unfolding size_line
size_again width depth h =
    let width_most : width ≤ 1024 = h.width_most in
    let depth_most : depth ≤ 1024 = h.depth_most in
    ap size_in (numbers_again (codes "size") (width ∷ depth ∷ []) (omega arith, (omega arith, tt)))
    ∙ (ap₂ (λ a b. cond (a || b) (Err Range) (Ok (width, depth))) (range_in 1 1024 width h.wide h.width_most) (range_in 1 1024 depth h.deep h.depth_most))

-- a word and a number within limits
pub limited_takes : (word : List ℕ) (low high : ℕ) (line : List ℕ) (n : ℕ) → limited word low high line ≡ Ok n → (line ≡ line_text word (n ∷ [])) × (low ≤ n) × (n ≤ high)
unfolding limited
limited_takes word low high line n e = of_numbers (numbers_of word 1 line) refl e
  where
    of_numbers : (numbers : Option (List ℕ)) → numbers_of word 1 line ≡ numbers → number_in low high numbers ≡ Ok n
        → (line ≡ line_text word (n ∷ [])) × (low ≤ n) × (n ≤ high)
    of_numbers None is h = absurd cc
    of_numbers (Some numbers) is h =
        let form = numbers_take word 1 line numbers is in
        let told = unless (not (is_in low high (slice_index numbers 0))) Range (Ok (slice_index numbers 0)) n h in
        let range = in_range low high (slice_index numbers 0) told.0 in
        let P : ℕ → Type 0 = λ k. (line ≡ line_text word (k ∷ [])) × (low ≤ k) × (k ≤ high) in
        subst P (ok_is told.1) (form.0 ∙ ap (line_text word) (one_is numbers form.1), range.0, range.1)

pub limited_again : (word : List ℕ) (low high n : ℕ) → low ≤ n → n ≤ high → high < 2 ^ 32 → limited word low high (line_text word (n ∷ [])) ≡ Ok n
unfolding limited
limited_again word low high n least most small =
    ap (number_in low high) (numbers_again word (n ∷ []) (omega arith, tt)) ∙ ap (λ b. cond b (Err Range) (Ok n)) (range_in low high n least most)

-- `agent`
agent_limits : (height climb radius : ℕ) → (not (is_in 1 255 height) || nat_lt 254 climb || nat_lt 15 radius) ≡ false → nat_le height climb ≡ false → IsAgent (agent_with height climb radius)
agent_limits height climb radius range below = record {
  stands = grind (arith, nat_tests);
  low_enough = grind (arith, nat_tests);
  climb = grind (arith, nat_tests);
  radius = grind (arith, nat_tests);
}

pub agent_takes : (line : List ℕ) (agent : Agent) → agent_line line ≡ Ok agent
    → (line ≡ line_text (codes "agent") (agent.height ∷ agent.climb ∷ agent.radius ∷ [])) × IsAgent agent
unfolding agent_line
agent_takes line agent e = of_numbers (numbers_of (codes "agent") 3 line) refl e
  where
    of_numbers : (numbers : Option (List ℕ)) → numbers_of (codes "agent") 3 line ≡ numbers → agent_in numbers ≡ Ok agent
        → (line ≡ line_text (codes "agent") (agent.height ∷ agent.climb ∷ agent.radius ∷ [])) × IsAgent agent
    of_numbers None is h = absurd cc
    of_numbers (Some numbers) is h =
        let form = numbers_take (codes "agent") 3 line numbers is in
        let range = unless (not (is_in 1 255 (slice_index numbers 0)) || nat_lt 254 (slice_index numbers 1) || nat_lt 15 (slice_index numbers 2)) Range _ agent h in
        let climb = unless (nat_le (slice_index numbers 0) (slice_index numbers 1)) Climb (Ok (agent_with (slice_index numbers 0) (slice_index numbers 1) (slice_index numbers 2))) agent range.1 in
        let P : Agent → Type 0 = λ a. (line ≡ line_text (codes "agent") (a.height ∷ a.climb ∷ a.radius ∷ [])) × IsAgent a in
        subst P (ok_is climb.1) (
          form.0 ∙ ap (line_text (codes "agent")) (three_is numbers form.1),
          agent_limits (slice_index numbers 0) (slice_index numbers 1) (slice_index numbers 2) range.0 climb.0,
        )

pub agent_again : (agent : Agent) → IsAgent agent → agent_line (line_text (codes "agent") (agent.height ∷ agent.climb ∷ agent.radius ∷ [])) ≡ Ok agent
unfolding agent_line
agent_again agent h =
    let height : agent.height ≤ 255 = h.low_enough in
    let climb : agent.climb < agent.height = h.climb in
    let radius : agent.radius ≤ 15 = h.radius in
    ap agent_in (numbers_again (codes "agent") (agent.height ∷ agent.climb ∷ agent.radius ∷ []) (omega arith, (omega arith, (omega arith, tt))))
    ∙ ap₂ (λ a b. cond a (Err Range) (cond b (Err Climb) (Ok agent))) (agent_fits agent.height agent.climb agent.radius h.stands height climb radius) (below_height agent.height agent.climb climb)
  where
    agent_fits : (height climb radius : ℕ) → 1 ≤ height → height ≤ 255 → climb < height → radius ≤ 15 → (not (is_in 1 255 height) || nat_lt 254 climb || nat_lt 15 radius) ≡ false
    agent_fits height climb radius stands low below near = grind (arith, nat_tests)

    below_height : (height climb : ℕ) → climb < height → nat_le height climb ≡ false
    below_height height climb below = grind (arith, nat_tests)

-- `mesh`
pub mesh_takes : (line : List ℕ) (mesh : MeshKind) → mesh_line line ≡ Ok mesh → line ≡ mesh_text mesh
unfolding mesh_line
mesh_takes line mesh e = either_takes mesh_text Strips Contours mesh line e

pub mesh_again : (mesh : MeshKind) → mesh_line (mesh_text mesh) ≡ Ok mesh
unfolding mesh_line
mesh_again Strips = refl
mesh_again Contours = refl

-- `clear`
pub clear_takes : (tile radius : ℕ) (line : List ℕ) (clear : Bool) → clear_line tile radius line ≡ Ok clear
    → (line ≡ line_text (codes "clear") (cond clear 1 0 ∷ [])) × (clear ≡ true → 2 * radius ≤ tile)
unfolding clear_line
clear_takes tile radius line clear e = of_numbers (numbers_of (codes "clear") 1 line) refl e
  where
    bit : (n : ℕ) → nat_lt 1 n ≡ false → n ≡ cond (n == 1) 1 0
    bit zero most = refl
    bit (suc zero) most = refl
    bit (suc (suc n)) most = let few = ltb-false 1 (suc (suc n)) most in absurd (omega (arith, few))

    wide_enough : (n : ℕ) → (n == 1 && nat_lt tile (2 * radius)) ≡ false → n == 1 ≡ true → 2 * radius ≤ tile
    wide_enough n wide one = grind (arith, nat_tests)

    of_numbers : (numbers : Option (List ℕ)) → numbers_of (codes "clear") 1 line ≡ numbers → clear_in tile radius numbers ≡ Ok clear
        → (line ≡ line_text (codes "clear") (cond clear 1 0 ∷ [])) × (clear ≡ true → 2 * radius ≤ tile)
    of_numbers None is h = absurd cc
    of_numbers (Some numbers) is h =
        let n = slice_index numbers 0 in
        let form = numbers_take (codes "clear") 1 line numbers is in
        let told = unless (nat_lt 1 n || n == 1 && nat_lt tile (2 * radius)) Range (Ok (n == 1)) clear h in
        let tests = or_parts _ _ told.0 in
        let P : Bool → Type 0 = λ c. (line ≡ line_text (codes "clear") (cond c 1 0 ∷ [])) × (c ≡ true → 2 * radius ≤ tile) in
        subst P (ok_is told.1) (
          form.0 ∙ ap (line_text (codes "clear")) (one_is numbers form.1 ∙ ap (λ k. k ∷ []) (bit n tests.0)),
          wide_enough n tests.1,
        )

pub clear_again : (tile radius : ℕ) (clear : Bool) → (clear ≡ true → 2 * radius ≤ tile) → clear_line tile radius (line_text (codes "clear") (cond clear 1 0 ∷ [])) ≡ Ok clear
unfolding clear_line
clear_again tile radius false wide = ap (clear_in tile radius) (numbers_again (codes "clear") (0 ∷ []) (omega arith, tt))
clear_again tile radius true wide =
    let most : 2 * radius ≤ tile = wide refl in
    ap (clear_in tile radius) (numbers_again (codes "clear") (1 ∷ []) (omega arith, tt)) ∙ ap (λ b. cond b (Err Range) (Ok true)) (fits most)
  where
    fits : 2 * radius ≤ tile → nat_lt tile (2 * radius) ≡ false
    fits most = grind (arith, nat_tests)
