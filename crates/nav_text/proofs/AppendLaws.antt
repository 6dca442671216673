-- What calls append one after the other.
use Rattle.std.proofs.Common.{◌≡◌, ◌∙◌, refl, sym, ap, subst, append_assoc, ℕ, ◌+◌, ◌<◌, ◌≤◌, List, [], ◌∷◌, ◌++◌, length, take, drop, get_or, arith, Ok, Err}
use Rattle.std.specs.Prelude.{Result, IsOk, IsErr, is_ok, if◌then◌else◌, vec_len, vec_capacity}
use Rattle.std.specs.List.{flat_map}
use Rattle.std.specs.declared.alloc.AllocError.{AllocError}
use Rattle.std.specs.declared.alloc.Global.{Global}
use Rattle.std.specs.declared.vec.Vec.{Vec}
use Rattle.std.proofs.lemmas.List.{take-append-drop, take-take, take_more, length-append, append-nil}
use Rattle.std.proofs.lemmas.Grind.{flat_map-append}
use Rattle.std.proofs.Math.Seq.{take-append_seam}
use Rattle.nav_text.specs.Appends.{Appends}

-- a whole text is appended
abbrev pub Appended : Vec ℕ Global → Vec ℕ Global → List ℕ → Type 0
Appended old new text = Appends {T = Unit {0}} {E = AllocError} old new (Ok tt) text

-- what a vector says of a slice that it takes
pub extended : {T E : Type 0} (old new : Vec ℕ Global) (result : Result T E) (text : List ℕ)
    → new.items ≡ (if is_ok result then old.items ++ text else old.items) → vec_capacity old ≤ vec_capacity new
    → (vec_len old + length text ≤ vec_capacity old → IsOk result) → Appends old new result text
extended old new (Ok x) text items kept room = record { ok = items; err = tt; room = room; capacity = kept }
extended old new (Err e) text items kept room =
    record { ok = tt; err = ap (take (vec_len old)) items ∙ ap (λ n. take n old.items) old.ok.0 ∙ take_whole old.items; room = room; capacity = kept }
  where
    take_whole : (xs : List ℕ) → take (length xs) xs ≡ xs
    take_whole xs = ap (take (length xs)) (sym (append-nil xs)) ∙ take-append_seam xs []

-- nothing is appended yet
pub nothing : {T E : Type 0} (old : Vec ℕ Global) (x : T) → Appends {T = T} {E = E} old old (Ok x) []
nothing old x = record { ok = sym (append-nil old.items); err = tt; room = λ fits. refl; capacity = omega arith }

-- the text may be spelled otherwise
pub spelled : {T E : Type 0} {old new : Vec ℕ Global} {result : Result T E} (text other : List ℕ) → text ≡ other → Appends old new result text → Appends old new result other
spelled {T = T} {E = E} {old = old} {new = new} {result = result} text other is appends = subst (λ t. Appends {T = T} {E = E} old new result t) is appends

-- one text and then another
pub and_then : {T E T' E' : Type 0} {old now new : Vec ℕ Global} {x : T} {result : Result T' E'} (first second : List ℕ)
    → Appends {T = T} {E = E} old now (Ok x) first → Appends now new result second → Appends old new result (first ++ second)
and_then {old = old} {now = now} {new = new} {result = Ok x} first second front back =
    record { ok = back.ok ∙ ap (λ t. t ++ second) front.ok ∙ append_assoc old.items first second; err = tt; room = λ fits. refl; capacity = omega (arith, front.capacity, back.capacity) }
and_then {old = old} {now = now} {new = new} {result = Err e} first second front back =
    let sum = ap length front.ok ∙ length-append old.items first in
    let all = length-append first second in
    let shorter : vec_len old ≤ vec_len now = omega (arith, sum, old.ok.0, now.ok.0) in
    record {
      ok = tt;
      err = sym (take-take (vec_len old) (vec_len now) new.items shorter) ∙ ap (take (vec_len old)) (back.err ∙ front.ok) ∙ ap (λ n. take n (old.items ++ first)) old.ok.0
          ∙ take-append_seam old.items first;
      room = λ fits. back.room (omega (arith, fits, sum, all, old.ok.0, now.ok.0, front.capacity));
      capacity = omega (arith, front.capacity, back.capacity);
    }

-- a text that was refused, and another that was not tried
pub longer : {T E : Type 0} {old new : Vec ℕ Global} {e : E} (first second : List ℕ) → Appends {T = T} {E = E} old new (Err e) first → Appends {T = T} {E = E} old new (Err e) (first ++ second)
longer first second appends = record {
  ok = tt;
  err = appends.err;
  room = λ fits. appends.room (omega (arith, fits, length-append first second));
  capacity = appends.capacity;
}

-- a refusal that a caller hands on
pub handed : {T E T' E' : Type 0} {old new : Vec ℕ Global} {e : E} (given : Result T' E') (text : List ℕ)
    → IsErr given → Appends {T = T} {E = E} old new (Err e) text → Appends old new given text
handed (Ok x) text fails appends = cc
handed (Err e) text fails appends = record { ok = tt; err = appends.err; room = λ fits. absurd (cc (appends.room fits)); capacity = appends.capacity }

module _ {X : Type 0} (f : X → List ℕ) (head : List ℕ) (xs : List X) (i : ℕ) (d : X) (there : i < length xs) where
  -- the texts so far and the next one
  pub one_more : (head ++ flat_map f (take i xs)) ++ f (get_or xs i d) ≡ head ++ flat_map f (take (i + 1) xs)
  one_more =
      append_assoc head (flat_map f (take i xs)) (f (get_or xs i d))
      ∙ ap (λ t. head ++ t) (ap (λ t. flat_map f (take i xs) ++ t) (sym (append-nil (f (get_or xs i d)))) ∙ sym (flat_map-append f (take i xs) (get_or xs i d ∷ [])))
      ∙ ap (λ ys. head ++ flat_map f ys) (sym (take_more xs i d there))

  -- the texts so far, the next one and those behind it are all
  pub and_rest : ((head ++ flat_map f (take i xs)) ++ f (get_or xs i d)) ++ flat_map f (drop (i + 1) xs) ≡ head ++ flat_map f xs
  and_rest =
      ap (λ t. t ++ flat_map f (drop (i + 1) xs)) one_more ∙ append_assoc head (flat_map f (take (i + 1) xs)) (flat_map f (drop (i + 1) xs))
      ∙ ap (λ t. head ++ t) (sym (flat_map-append f (take (i + 1) xs) (drop (i + 1) xs)))
      ∙ ap (λ ys. head ++ flat_map f ys) (take-append-drop (i + 1) xs)
