-- What contracts see of a lock and of its passes.
use Rattle.std.specs.Prelude.{◌≡◌, refl, ℕ, ◌<◌, ◌≤◌, List, [], length, ◌⊎◌, Option, Some, None, All, Any, slice_get}
use Rattle.std.specs.Coded.{Coded, code_by, coded×, coded_ℕ, coded_list, coded_option}
use Rattle.atomic_table.specs.Seated.{TableId, table_id_coded}
use Rattle.turn_lock.specs.declared.view.Claim.{Claim}
use Rattle.turn_lock.specs.Growth.{Extends, Grows}

-- which lock it is: what no other lock shares with it, the root of its value, and the number of its passes
pub record LockId (G : Type 0) : Type 0 where
  pub table : TableId
  pub root : G
  pub passes : ℕ

abbrev pub lock_id_code : {G : Type 0} → Coded G → Coded (LockId G)
lock_id_code {G} c =
    code_by (TableId × (G × ℕ)) (coded× table_id_coded (coded× c coded_ℕ))
    (λ l. (l.table, (l.root, l.passes))) (λ t. record { table = t.0; root = t.1.0; passes = t.1.1 }) (λ _. refl)

-- what a pass knows: its lock and its lock's root, its number, the part of the list that it has seen, and the greatest
-- length that it has met
pub record PassView (G E : Type 0) : Type 0 where
  pub table : TableId
  pub root : Option G
  pub number : ℕ
  pub seen : List E
  pub met : ℕ

abbrev pub pass_view_code : {G E : Type 0} → Coded G → Coded E → Coded (PassView G E)
pass_view_code {G} {E} c d =
    code_by (TableId × (Option G × (ℕ × (List E × ℕ)))) (coded× table_id_coded (coded× (coded_option c) (coded× coded_ℕ (coded× (coded_list d) coded_ℕ))))
    (λ p. (p.table, (p.root, (p.number, (p.seen, p.met))))) (λ t. record { table = t.0; root = t.1.0; number = t.1.1.0; seen = t.1.1.1.0; met = t.1.1.1.1 }) (λ _. refl)

module _ {G E : Type 0} where
  -- what the pass knows of the list, under its number
  abbrev pub claim_of : PassView G E → Claim E
  claim_of pass = record { number = pass.number; seen = pass.seen; met = pass.met }

  -- the pass is one of the lock's
  pub record IsOf (lock : LockId G) (pass : PassView G E) : Type 0 where
    pub table : pass.table ≡ lock.table
    pub root : pass.root ≡ Some lock.root

  -- the pass with this number, as the lock makes it: it has seen and met nothing
  abbrev pub fresh_pass : LockId G → ℕ → PassView G E
  fresh_pass lock number = record { table = lock.table; root = Some lock.root; number = number; seen = []; met = 0 }

  -- the passes of a new lock, in the order of their numbers from 0 on
  pub record AreFresh (lock : LockId G) (passes : List (PassView G E)) : Type 0 where
    pub count : length passes ≡ lock.passes
    pub each : (k : ℕ) → k < lock.passes → slice_get passes k ≡ Some (fresh_pass lock k)

  -- every pass of the lock is there, and no other
  pub record AreAll (lock : LockId G) (passes : List (PassView G E)) : Type 0 where
    pub of : All (λ p. IsOf lock p) passes
    pub each : (k : ℕ) → k < lock.passes → Any (λ p. p.number ≡ k) passes

-- an act names a pass's number, or it names none
abbrev pub MayName : Option ℕ → ℕ → Type 0
MayName by number = (by ≡ Some number) ⊎ (by ≡ None)

-- What an act did, and what its pass has seen of it. The list that the act found was legal, went on from what the pass
-- had seen by entries of other makers alone, and was at least as long as
-- the pass had met. `grew` says how far the act lengthened it, `did` what the act answered. The pass has then seen and
-- met the whole list after the act
pub record Acts {G E A D : Type 0} (maker : E → ℕ) (by : A → Option ℕ) (is_legal : List E → Type 0) (does : List E → A → D → List E → Type 0) (old : PassView G E) (act : A) (done : D) (new : PassView G E) : Type 0 where
  pub before : List E
  pub legal : is_legal before
  pub extends : Extends maker old.number old.seen before
  pub met : old.met ≤ length before
  pub grew : Grows maker (by act) before new.seen
  pub did : does before act done new.seen
  pub meets : new.met ≡ length new.seen
