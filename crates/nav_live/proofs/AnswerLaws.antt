-- What lines of a lane were answered stays right while the history grows, and one line more keeps the rules.
use Rattle.std.proofs.Common.{◌≡◌, refl, sym, ap, subst, ℕ, zero, suc, ◌≤◌, List, [], ◌∷◌, ◌++◌, length, All, AllPairs, Option, Some, None, fold, take, slice_get, append-nil, arith, length-append}
use Rattle.std.specs.List.{cons_option}
use Rattle.std.proofs.lemmas.List.Elements.{All-append, All-cons, All-head, All-nil, All-push, All-tail, All-weaker, filter_map-append}
use Rattle.std.proofs.lemmas.List.Sums.{fold-append}
use Rattle.std.proofs.lemmas.List.Quantifiers.{all_pairs_push}
use mathlib.Core.List.{IsPrefix}
use Rattle.nav_ground.specs.declared.history.Entry.{Entry}
use Rattle.nav_ground.specs.declared.history.Ground.{Ground}
use Rattle.mesh_types.specs.Right.{IsRight}
use Rattle.nav_script.specs.declared.script.Line.{Line}
use Rattle.nav_script.specs.declared.script.Line.TheVariants.{Ask, Add, Remove, Undo, Settle, Send, March}
use Rattle.nav_book.proofs.GroundTiles.{build_of-append}
use Rattle.nav_live.specs.declared.lane.LineAnswer.{LineAnswer}
use Rattle.nav_live.specs.declared.lane.LineAnswer.TheVariants.{Replied, Answered, Settled, Walked, NoWalker}
use Rattle.nav_live.specs.LaneEntries.{Spoken}
use Rattle.nav_live.specs.LaneRecords.{IsSaid, last_number, length_told, lengths_told, number_after}
use Rattle.nav_live.specs.Lanes.{AreAnswers, CoverEntries, NeverFall}

-- a beginning of a list is no longer than the list
pub IsPrefix-length : {A : Type 0} (xs ys : List A) → IsPrefix xs ys → length xs ≤ length ys
IsPrefix-length xs ys p = omega (arith, ap length p.1, length-append xs p.0)

within_longer : (history more : List Entry) (k : ℕ) → k ≤ length history → k ≤ length (history ++ more)
within_longer history more k within = omega (arith, within, length-append history more)

said_later : (ground : Ground) (history more : List Entry) (line : Line) (said : LineAnswer) → IsSaid ground history line said → IsSaid ground (history ++ more) line said
said_later ground history more (Ask question) (Answered k answer) is =
    (within_longer history more k is.0, subst (λ mesh. IsRight mesh question answer) (sym (build_of-append ground history more k is.0)) is.1)
said_later ground history more (Add shape) (Replied number reply) is = tt
said_later ground history more (Remove other) (Replied number reply) is = tt
said_later ground history more (Undo j) (Replied number reply) is = tt
said_later ground history more Settle (Settled k) is = within_longer history more k is
said_later ground history more (Send from from_y to to_y) (Walked k answer) is = within_longer history more k is
said_later ground history more (March far) (Walked k answer) is = within_longer history more k is
said_later ground history more (March far) NoWalker is = tt
said_later ground history more _ _ is = absurd is

-- answers that are right in a history are right in every longer one
pub answers_later : (ground : Ground) (history longer : List Entry) (spoken : List Spoken) → IsPrefix history longer → AreAnswers ground history spoken → AreAnswers ground longer spoken
answers_later ground history longer spoken p are =
    subst (λ list. AreAnswers ground list spoken) p.1
    (All-weaker (λ (one : Spoken). IsSaid ground history one.0 one.1) (λ (one : Spoken). IsSaid ground (history ++ p.0) one.0 one.1)
    (λ one is. said_later ground history p.0 one.0 one.1 is) spoken are)

-- one answer more
pub answers_and : (ground : Ground) (history : List Entry) (spoken : List Spoken) (one : Spoken) → AreAnswers ground history spoken → IsSaid ground history one.0 one.1 → AreAnswers ground history (spoken ++ one ∷ [])
answers_and ground history spoken one are is = All-push (λ (one : Spoken). IsSaid ground history one.0 one.1) spoken one are is

-- each length that lines name is one of the history
said_within : (ground : Ground) (history : List Entry) (line : Line) (said : LineAnswer) (k : ℕ) → IsSaid ground history line said → length_told said ≡ Some k → k ≤ length history
said_within ground history (Ask question) (Answered n answer) k is told = let same : n ≡ k = cc told in omega (arith, is.0, same)
said_within ground history Settle (Settled n) k is told = let same : n ≡ k = cc told in omega (arith, is, same)
said_within ground history (Send from from_y to to_y) (Walked n answer) k is told = let same : n ≡ k = cc told in omega (arith, is, same)
said_within ground history (March far) (Walked n answer) k is told = let same : n ≡ k = cc told in omega (arith, is, same)
said_within ground history (March far) NoWalker k is told = absurd (cc told)
said_within ground history (Add shape) (Replied number reply) k is told = absurd (cc told)
said_within ground history (Remove number) (Replied n reply) k is told = absurd (cc told)
said_within ground history (Undo j) (Replied number reply) k is told = absurd (cc told)
said_within ground history _ _ k is told = absurd is

one_within : (told : Option ℕ) (n : ℕ) → ((k : ℕ) → told ≡ Some k → k ≤ n) → All (λ k. k ≤ n) (cons_option told [])
one_within None n within = All-nil (λ (k : ℕ). k ≤ n)
one_within (Some k) n within = All-cons (λ (k : ℕ). k ≤ n) k [] (within k refl) (All-nil (λ (k : ℕ). k ≤ n))

cons_option-front : {A : Type 0} (x : Option A) (xs : List A) → cons_option x xs ≡ cons_option x [] ++ xs
cons_option-front None xs = refl
cons_option-front (Some x) xs = refl

told_within : (ground : Ground) (history : List Entry) (spoken : List Spoken) → AreAnswers ground history spoken → All (λ k. k ≤ length history) (lengths_told spoken)
told_within ground history [] are = All-nil (λ (k : ℕ). k ≤ length history)
told_within ground history (one ∷ more) are =
    let P : Spoken → Type 0 = λ one. IsSaid ground history one.0 one.1 in
    let head = one_within (length_told one.1) (length history) (λ k told. said_within ground history one.0 one.1 k (All-head P one more are) told) in
    let rest = told_within ground history more (All-tail P one more are) in
    rw (cons_option-front (length_told one.1) (lengths_told more)) (All-append (λ (k : ℕ). k ≤ length history) (cons_option (length_told one.1) []) (lengths_told more) head rest)

rising_and : (ks : List ℕ) (n : ℕ) (told : Option ℕ) → AllPairs (λ (a b : ℕ). a ≤ b) ks → All (λ k. k ≤ n) ks → ((k : ℕ) → told ≡ Some k → n ≤ k)
    → AllPairs (λ (a b : ℕ). a ≤ b) (ks ++ cons_option told [])
rising_and ks n None pairs within above = rw (append-nil ks) pairs
rising_and ks n (Some k) pairs within above =
    all_pairs_push (λ (a b : ℕ). a ≤ b) ks k pairs (λ i d there. let low = within i d there in let high = above k refl in omega (arith, low, high))

-- one more keeps the lengths from falling, where it names at least the length of all that was seen
pub rising_more : (ground : Ground) (history : List Entry) (spoken : List Spoken) (one : Spoken) → AreAnswers ground history spoken → NeverFall spoken
    → ((k : ℕ) → length_told one.1 ≡ Some k → length history ≤ k) → NeverFall (spoken ++ one ∷ [])
rising_more ground history spoken one are rising above =
    let all = filter_map-append (λ (one : Spoken). length_told one.1) spoken (one ∷ []) in
    rw all (rising_and (lengths_told spoken) (length history) (length_told one.1) rising (told_within ground history spoken are) above)

-- the same of `settle` lines, where the numbers of entries go on from one
abbrev CoverFrom : ℕ → List Spoken → Type 0
CoverFrom start spoken = (place k : ℕ) (line : Line) → slice_get spoken place ≡ Some (line, Settled k) → fold (λ (last : ℕ) (one : Spoken). number_after last one.1) start (take place spoken) ≤ k

covers_and : (start : ℕ) (spoken : List Spoken) (one : Spoken) → CoverFrom start spoken
    → ((k : ℕ) → one.1 ≡ Settled k → fold (λ (last : ℕ) (one : Spoken). number_after last one.1) start spoken ≤ k) → CoverFrom start (spoken ++ one ∷ [])
covers_and start [] one old new zero k line is = let said : one.1 ≡ Settled k = cc is in new k said
covers_and start [] one old new (suc place) k line is = absurd (cc is)
covers_and start (first ∷ more) one old new zero k line is = old zero k line is
covers_and start (first ∷ more) one old new (suc place) k line is =
    covers_and (number_after start first.1) more one (λ p n l at. old (suc p) n l at) new place k line is

-- one more keeps `settle` lines above the entries before them, where it does so itself
pub covers_more : (spoken : List Spoken) (one : Spoken) → CoverEntries spoken → ((k : ℕ) → one.1 ≡ Settled k → last_number spoken ≤ k) → CoverEntries (spoken ++ one ∷ [])
covers_more spoken one old new = covers_and 0 spoken one old new

-- the last number after one more
pub last_number_and : (spoken : List Spoken) (one : Spoken) → last_number (spoken ++ one ∷ []) ≡ number_after (last_number spoken) one.1
last_number_and spoken one = fold-append (λ (last : ℕ) (one : Spoken). number_after last one.1) 0 spoken (one ∷ [])
