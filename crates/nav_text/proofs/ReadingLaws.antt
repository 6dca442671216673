-- The laws of reading a text line by line, for every format.
use Rattle.std.proofs.Common.{◌≤◌, length-append, ◌≡◌, ℕ, ◌+◌, List, [], ◌∷◌, ◌++◌, length, Option, Some, None, Ok, Err, sym, refl, ap, ◌∙◌, subst, arith, add-zero, append-nil, append_assoc}
use Rattle.nav_text.specs.declared.fault.TextFault.{TextFault}
use Rattle.nav_text.specs.declared.fault.FaultKind.TheVariants.{Unfinished}
use Rattle.nav_text.specs.Faults.{fault_at}
use Rattle.nav_text.specs.Reading.{Verdict, Goes, HopEnds, Refuses, Format, read_end, read_on, read, Leads, IsFirstFault}
use Rattle.nav_text.proofs.Inversions.{ok_is, err_is}

-- the end of the lines where the text may not end
end_fault : {V : Type 0} (value : Option V) (count : ℕ) (fault : TextFault) → read_end value count ≡ Err fault → (value ≡ None) × (fault_at (count + 1) Unfinished ≡ fault)
end_fault (Some value) count fault e = absurd cc
end_fault None count fault e = (refl, err_is e)

-- a fault further on is one of all the lines
onto_fault : {P V : Type 0} (format : Format P V) (place next : P) (count : ℕ) (line : List ℕ) (more : List (List ℕ)) (fault : TextFault)
    → format.verdict place line ≡ Goes next → IsFirstFault format next (count + 1) more fault → IsFirstFault format place count (line ∷ more) fault
onto_fault format place next count line more fault goes further = record {
  good = line ∷ further.good;
  rest = further.rest;
  at = further.at;
  kind = further.kind;
  parts = ap (λ ls. line ∷ ls) further.parts;
  leads = (next, goes, further.leads);
  fails = further.fails;
  line = further.line ∙ (let e : count + 1 + length further.good + 1 ≡ count + length (line ∷ further.good) + 1 = omega arith in e);
  number = further.number;
}

at_line : {P V : Type 0} (format : Format P V) (place : P) (count : ℕ) (line : List ℕ) (more : List (List ℕ)) (fault : TextFault)
    → ((next : P) → read format next (count + 1) more ≡ Err fault → IsFirstFault format next (count + 1) more fault)
    → (verdict : Verdict P V) → format.verdict place line ≡ verdict → read_on verdict count (λ next. read format next (count + 1) more) ≡ Err fault
    → IsFirstFault format place count (line ∷ more) fault
at_line format place count line more fault further (Goes next) is e = onto_fault format place next count line more fault is (further next e)
at_line format place count line more fault further (HopEnds value) is e = absurd cc
at_line format place count line more fault further (Refuses kind) is e =
    let same = err_is e in record {
      good = [];
      rest = line ∷ more;
      at = place;
      kind = kind;
      parts = refl;
      leads = refl;
      fails = is;
      line = sym (ap (λ f. f.line) same) ∙ (let e : count + 1 ≡ count + 0 + 1 = omega arith in e);
      number = sym (ap (λ f. f.kind) same);
    }

-- A fault is that of the first line that fails, given the lines before it.
pub first_fault : {P V : Type 0} (format : Format P V) (place : P) (count : ℕ) (those : List (List ℕ)) (fault : TextFault)
    → read format place count those ≡ Err fault → IsFirstFault format place count those fault
unfolding read
first_fault format place count [] fault e =
    let ended = end_fault (format.value place) count fault e in record {
      good = [];
      rest = [];
      at = place;
      kind = Unfinished;
      parts = refl;
      leads = refl;
      fails = (ended.0, refl);
      line = sym (ap (λ f. f.line) ended.1) ∙ (let e : count + 1 ≡ count + 0 + 1 = omega arith in e);
      number = sym (ap (λ f. f.kind) ended.1);
    }
first_fault format place count (line ∷ more) fault e =
    at_line format place count line more fault (λ next r. first_fault format next (count + 1) more fault r) (format.verdict place line) refl e

-- at a place the next line ends the text with a value, or the text may end there with it
abbrev pub EndsAt : {P V : Type 0} → Format P V → P → List (List ℕ) → V → ℕ → Type 0
EndsAt format place [] value more = (format.value place ≡ Some value) × (more ≡ 0)
EndsAt format place (line ∷ rest) value more = (format.verdict place line ≡ HopEnds value) × (more ≡ 1)

-- a value is read where right lines lead to a place that ends the text with it
pub record IsRead {P V : Type 0} (format : Format P V) (place : P) (count : ℕ) (those : List (List ℕ)) (value : V) (total : ℕ) : Type 0 where
  pub good : List (List ℕ)
  pub rest : List (List ℕ)
  pub at : P
  pub more : ℕ
  pub parts : those ≡ good ++ rest
  pub leads : Leads format place good at
  pub ends : EndsAt format at rest value more
  pub counted : total ≡ count + length good + more

end_value : {V : Type 0} (ends : Option V) (count : ℕ) (value : V) (total : ℕ) → read_end ends count ≡ Ok (value, total) → (ends ≡ Some value) × (total ≡ count)
end_value (Some found) count value total e = let p = ok_is e in (ap (λ x. Some x.0) p, sym (ap (λ x. x.1) p))
end_value None count value total e = absurd cc

onto_read : {P V : Type 0} (format : Format P V) (place next : P) (count : ℕ) (line : List ℕ) (more : List (List ℕ)) (value : V) (total : ℕ)
    → format.verdict place line ≡ Goes next → IsRead format next (count + 1) more value total → IsRead format place count (line ∷ more) value total
onto_read format place next count line more value total goes further = record {
  good = line ∷ further.good;
  rest = further.rest;
  at = further.at;
  more = further.more;
  parts = ap (λ ls. line ∷ ls) further.parts;
  leads = (next, goes, further.leads);
  ends = further.ends;
  counted = further.counted ∙ (let e : count + 1 + length further.good + further.more ≡ count + length (line ∷ further.good) + further.more = omega arith in e);
}

read_line : {P V : Type 0} (format : Format P V) (place : P) (count : ℕ) (line : List ℕ) (more : List (List ℕ)) (value : V) (total : ℕ)
    → ((next : P) → read format next (count + 1) more ≡ Ok (value, total) → IsRead format next (count + 1) more value total)
    → (verdict : Verdict P V) → format.verdict place line ≡ verdict → read_on verdict count (λ next. read format next (count + 1) more) ≡ Ok (value, total)
    → IsRead format place count (line ∷ more) value total
read_line format place count line more value total further (Goes next) is e = onto_read format place next count line more value total is (further next e)
read_line format place count line more value total further (HopEnds found) is e =
    let p = ok_is e in record {
      good = [];
      rest = line ∷ more;
      at = place;
      more = 1;
      parts = refl;
      leads = refl;
      ends = (is ∙ ap (λ x. HopEnds x.0) p, refl);
      counted = sym (ap (λ x. x.1) p) ∙ (let e : count + 1 ≡ count + 0 + 1 = omega arith in e);
    }
read_line format place count line more value total further (Refuses kind) is e = absurd cc

pub read_takes : {P V : Type 0} (format : Format P V) (place : P) (count : ℕ) (those : List (List ℕ)) (value : V) (total : ℕ)
    → read format place count those ≡ Ok (value, total) → IsRead format place count those value total
unfolding read
read_takes format place count [] value total e =
    let ended = end_value (format.value place) count value total e in record {
      good = [];
      rest = [];
      at = place;
      more = 0;
      parts = refl;
      leads = refl;
      ends = (ended.0, refl);
      counted = ended.1 ∙ (let e : count ≡ count + 0 + 0 = omega arith in e);
    }
read_takes format place count (line ∷ more) value total e =
    read_line format place count line more value total (λ next r. read_takes format next (count + 1) more value total r) (format.verdict place line) refl e

ends_most : {P V : Type 0} (format : Format P V) (at : P) (rest : List (List ℕ)) (value : V) (more : ℕ) → EndsAt format at rest value more → more ≤ length rest
ends_most format at [] value more ends = let none : more ≡ 0 = ends.1 in omega arith
ends_most format at (line ∷ rest) value more ends = let one : more ≡ 1 = ends.1 in omega arith

-- no more lines are read than there are
pub read_count : {P V : Type 0} (format : Format P V) (place : P) (count : ℕ) (those : List (List ℕ)) (value : V) (total : ℕ)
    → read format place count those ≡ Ok (value, total) → total ≤ count + length those
read_count format place count those value total e =
    let told = read_takes format place count those value total e in
    let counted : total ≡ count + length told.good + told.more = told.counted in
    let long : length those ≡ length told.good + length told.rest = ap length told.parts ∙ length-append told.good told.rest in
    let more : told.more ≤ length told.rest = ends_most format told.at told.rest value told.more told.ends in
    omega arith

-- Right lines are read, and reading goes on where they lead.
pub leads_read : {P V : Type 0} (format : Format P V) (place : P) (count : ℕ) (good rest : List (List ℕ)) (at : P)
    → Leads format place good at → read format place count (good ++ rest) ≡ read format at (count + length good) rest
unfolding read
leads_read format place count [] rest at leads = rw (leads, add-zero) refl
leads_read format place count (line ∷ more) rest at leads =
    let goes = ap (λ v. read_on v count (λ next. read format next (count + 1) (more ++ rest))) leads.1 in
    let further = leads_read format leads.0 (count + 1) more rest at leads.2 in
    let same : count + 1 + length more ≡ count + length (line ∷ more) = omega arith in
    goes ∙ (further ∙ ap (λ n. read format at n rest) same)

-- what each right line keeps, right lines keep together
pub leads_keep : {P V : Type 0} (format : Format P V) (Keeps : P → List (List ℕ) → Type 0)
    → ((place next : P) (before : List (List ℕ)) (line : List ℕ) → Keeps place before → format.verdict place line ≡ Goes next → Keeps next (before ++ line ∷ []))
    → (place : P) (before good : List (List ℕ)) (at : P) → Keeps place before → Leads format place good at → Keeps at (before ++ good)
leads_keep format Keeps goes place before [] at kept leads = rw (append-nil before) (subst (λ p. Keeps p before) leads kept)
leads_keep format Keeps goes place before (line ∷ more) at kept leads =
    let further = leads_keep format Keeps goes leads.0 (before ++ line ∷ []) more at (goes place leads.0 before line kept leads.1) leads.2 in
    subst (λ ls. Keeps at ls) (append_assoc before (line ∷ []) more) further
