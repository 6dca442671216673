-- The states of kinds that were opened.
use Rattle.std.proofs.Common.{◌≡◌, ℕ, ◌<◌, List, [], ◌∷◌, ◌++◌, length, get_or, map, refl, ap, ◌∙◌, sym, arith}
use Rattle.std.specs.Prelude.{All}
use Rattle.std.proofs.lemmas.List.{append_assoc, append-nil, get_or-map, length-map}
use Rattle.std.proofs.lemmas.List.Elements.{Contains-get_or}
use Rattle.nav_ground.specs.declared.field.Field.{Field}
use Rattle.nav_ground.specs.declared.history.Ground.{Ground}
use Rattle.nav_ground.specs.declared.setting.Setting.{Setting}
use Rattle.build_queue.specs.BookState.{BookState, IsBook, first_state}
use Rattle.nav_book.specs.Openings.{ground_of}
use Rattle.agent_kinds.specs.Kinds.{AreKinds}
use Rattle.agent_kinds.specs.KindOpenings.{AreKindSettings, first_kinds}
use Rattle.agent_kinds.proofs.AtOne.{CommonState, by_places, common_of}

-- what a level that was opened has in common with others
abbrev opened_common : Field → ℕ → CommonState
opened_common field limit = record { field = field; limit = limit; history = []; target = 0; published = 0 }

by_default : (d : Setting) (settings : List Setting) (field : Field) → AreKindSettings settings field → All IsBook (first_kinds settings field)
    → AreKinds (first_kinds settings field)
by_default d settings field are rules =
    let opened : Setting → BookState = λ (setting : Setting). first_state (ground_of setting field) in
    let many : length (first_kinds settings field) ≡ length settings = length-map settings opened in
    record {
      some = omega (arith, many, are.some);
      few = omega (arith, many, are.few);
      each = rules;
      at_one = by_places (first_kinds settings field) (λ j k a b first second.
          let one : j < length settings = omega (arith, first, many) in
          let other : k < length settings = omega (arith, second, many) in
          ap common_of (get_or-map opened settings j d a one)
          ∙ ap (opened_common field) (are.limit (get_or settings j d) (get_or settings k d) (Contains-get_or settings j d one) (Contains-get_or settings k d other))
          ∙ sym (ap common_of (get_or-map opened settings k d b other)));
    }

pub opened_kinds : (settings : List Setting) (field : Field) → AreKindSettings settings field → All IsBook (first_kinds settings field)
    → AreKinds (first_kinds settings field)
opened_kinds [] field are rules = absurd (omega (arith, are.some))
opened_kinds (first ∷ more) field are rules = by_default first (first ∷ more) field are rules

-- one ground more that is opened
pub one_opened : (grounds : List Ground) (levels more : List BookState) (rest next : List Ground) (ground : Ground) (level : BookState)
    → more ≡ levels ++ level ∷ [] → level ≡ first_state ground → rest ≡ ground ∷ next → levels ++ map first_state rest ≡ map first_state grounds
    → more ++ map first_state next ≡ map first_state grounds
one_opened grounds levels more rest next ground level pushed is step before =
    ap (λ (xs : List BookState). xs ++ map first_state next) (pushed ∙ ap (λ (s : BookState). levels ++ s ∷ []) is)
    ∙ append_assoc levels (first_state ground ∷ []) (map first_state next)
    ∙ ap (λ (xs : List Ground). levels ++ map first_state xs) (sym step)
    ∙ before

-- no ground is left
pub all_opened : (grounds : List Ground) (levels : List BookState) (rest : List Ground) → rest ≡ []
    → levels ++ map first_state rest ≡ map first_state grounds → levels ≡ map first_state grounds
all_opened grounds levels rest none made =
    sym (append-nil levels) ∙ ap (λ (xs : List Ground). levels ++ map first_state xs) (sym none) ∙ made

-- the levels of the grounds of settings are the first kinds
pub opened_over : (settings : List Setting) (field : Field) → map first_state (map (λ (setting : Setting). ground_of setting field) settings) ≡ first_kinds settings field
opened_over [] field = refl
opened_over (setting ∷ more) field = ap (λ (xs : List BookState). first_state (ground_of setting field) ∷ xs) (opened_over more field)
