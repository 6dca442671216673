-- How actors of a live run have ended together, and what those that were taken apart left.
use Rattle.std.proofs.Common.{◌≡◌, ◌≢◌, ◌∙◌, refl, sym, ap, subst, suc, List, [], ◌∷◌, ◌++◌, length, map, Any, Option, Some, None, Ok, Err, filter_map, append_assoc, arith}
use Rattle.std.specs.List.{cons_option}
use Rattle.std.proofs.lemmas.List.Elements.{All-cons, All-nil, All-weaker}
use Rattle.nav_live.specs.declared.lane.LaneEnd.TheVariants.{NoMemory, HistoryFull}
use Rattle.nav_live.specs.declared.actors.ActorSlot.{ActorSlot}
use Rattle.nav_live.specs.Tasks.{End}
use Rattle.nav_live.specs.Leavings.{EndsAs, worse}

any_later : {X : Type 0} (P : X → Type 0) (x : X) (xs : List X) → Any P xs → Any P (x ∷ xs)
any_later P x xs any = let there = any.2 in (suc any.0, any.1, omega (arith, there), any.3, any.4)

-- how actors have ended together, with one before them
ends_first : (slot : ActorSlot) (rest : List ActorSlot) (end : End) → EndsAs rest end → EndsAs (slot ∷ rest) (worse slot.end end)
ends_first slot rest end ends = by_case slot.end end refl ends
  where
    well : ActorSlot → Type 0
    well h = h.end ≡ Ok tt

    not_refused : ActorSlot → Type 0
    not_refused h = h.end ≢ Err NoMemory

    met : ActorSlot → Type 0
    met h = h.end ≡ Err HistoryFull

    refused : ActorSlot → Type 0
    refused h = h.end ≡ Err NoMemory

    not : (own : End) → slot.end ≡ own → own ≢ Err NoMemory → not_refused slot
    not own is other none = other (sym is ∙ none)

    by_case : (own end : End) → slot.end ≡ own → EndsAs rest end → EndsAs (slot ∷ rest) (worse own end)
    by_case (Ok did) (Ok done) is all = All-cons well slot rest is all
    by_case (Ok did) (Err NoMemory) is any = any_later refused slot rest any
    by_case (Ok did) (Err HistoryFull) is ends = (All-cons not_refused slot rest (not (Ok did) is (λ none. absurd (cc none))) ends.0, any_later met slot rest ends.1)
    by_case (Err NoMemory) end is ends = (0, slot, omega arith, refl, is)
    by_case (Err HistoryFull) (Ok done) is all = (
      All-cons not_refused slot rest (not (Err HistoryFull) is (λ none. absurd (cc none)))
          (All-weaker well not_refused (λ h well' none. absurd (cc (well', none))) rest all),
      (0, slot, omega arith, refl, is),
    )
    by_case (Err HistoryFull) (Err NoMemory) is any = any_later refused slot rest any
    by_case (Err HistoryFull) (Err HistoryFull) is ends =
        (All-cons not_refused slot rest (not (Err HistoryFull) is (λ none. absurd (cc none))) ends.0, (0, slot, omega arith, refl, is))

worse-assoc : (a b c : End) → worse (worse a b) c ≡ worse a (worse b c)
worse-assoc (Ok done) b c = refl
worse-assoc (Err NoMemory) b c = refl
worse-assoc (Err HistoryFull) (Ok done) c = refl
worse-assoc (Err HistoryFull) (Err NoMemory) c = refl
worse-assoc (Err HistoryFull) (Err HistoryFull) (Ok done) = refl
worse-assoc (Err HistoryFull) (Err HistoryFull) (Err NoMemory) = refl
worse-assoc (Err HistoryFull) (Err HistoryFull) (Err HistoryFull) = refl

worse-well : (end : End) → worse end (Ok tt) ≡ end
worse-well (Ok done) = refl
worse-well (Err NoMemory) = refl
worse-well (Err HistoryFull) = refl

-- one actor more is taken: how those that were taken and those left have ended together
pub ends_next : (slot : ActorSlot) (rest before all : List ActorSlot) (end more : End) → before ≡ slot ∷ rest → more ≡ worse end slot.end
    → ((last : End) → EndsAs before last → EndsAs all (worse end last)) → (last : End) → EndsAs rest last → EndsAs all (worse more last)
ends_next slot rest before all end more is with whole last ends =
    subst (EndsAs all) (sym (worse-assoc end slot.end last) ∙ ap (λ e. worse e last) (sym with))
    (whole (worse slot.end last) (subst (λ hs. EndsAs hs (worse slot.end last)) (sym is) (ends_first slot rest last ends)))

pub none_left : {X : Type 0} (xs : List X) → length xs ≡ 0 → xs ≡ []
none_left [] none = refl
none_left (x ∷ xs) none = absurd (omega (arith, none))

-- none is left
pub ends_last : (rest all : List ActorSlot) (end : End) → rest ≡ [] → ((last : End) → EndsAs rest last → EndsAs all (worse end last)) → EndsAs all end
ends_last rest all end none whole =
    subst (EndsAs all) (worse-well end) (whole (Ok tt) (subst (λ hs. EndsAs hs (Ok tt)) (sym none) (All-nil (λ (slot : ActorSlot). slot.end ≡ Ok tt))))

-- one element more is taken: what those that were taken and those left give
pub map_next : {A B : Type 0} (f : A → B) (x : A) (rest before all : List A) (done more : List B) → before ≡ x ∷ rest → more ≡ done ++ f x ∷ []
    → done ++ map f before ≡ map f all → more ++ map f rest ≡ map f all
map_next f x rest before all done more is with whole =
    ap (λ d. d ++ map f rest) with ∙ append_assoc done (f x ∷ []) (map f rest) ∙ ap (λ xs. done ++ map f xs) (sym is) ∙ whole

pub filter_map_next : {A B : Type 0} (h : A → Option B) (x : A) (rest before all : List A) (done more : List B) → before ≡ x ∷ rest → more ≡ done ++ cons_option (h x) []
    → done ++ filter_map h before ≡ filter_map h all → more ++ filter_map h rest ≡ filter_map h all
filter_map_next {B = B} h x rest before all done more is with whole =
    ap (λ d. d ++ filter_map h rest) with ∙ append_assoc done (cons_option (h x) []) (filter_map h rest)
    ∙ ap (λ xs. done ++ xs) (joined (h x)) ∙ ap (λ xs. done ++ filter_map h xs) (sym is) ∙ whole
  where
    joined : (o : Option B) → cons_option o [] ++ filter_map h rest ≡ cons_option o (filter_map h rest)
    joined (Some y) = refl
    joined None = refl
