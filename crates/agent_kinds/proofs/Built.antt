-- Levels that are built, or some of whose tiles are.
use Rattle.std.proofs.Common.{◌≡◌, ℕ, ◌+◌, ◌<◌, List, length, get_or, set, map, None, sym, subst, refl, arith}
use Rattle.std.specs.Prelude.{All}
use Rattle.std.specs.List.{AllZip}
use Rattle.build_queue.specs.BookState.{BookState, IsBook, IsUnclaimed, least_awaited}
use Rattle.nav_book.specs.Settling.{all_built}
use Rattle.agent_kinds.specs.Kinds.{AreKinds, IsShownAsBefore}
use Rattle.agent_kinds.proofs.AtOne.{kinds_after}
use Rattle.agent_kinds.proofs.Commons.{shown_common, unchanged}
use Rattle.agent_kinds.proofs.Turns.{HaveAllTurned, HaveTurned, mapped, next_is, one_more, some_turned, weaker, zipped}

-- some of its tiles are built
pub record IsPartBuilt (old new : BookState) : Type 0 where
  pub shown : IsShownAsBefore old new
  pub rules : IsBook new

-- all are
pub record IsBuilt (old new : BookState) : Type 0 where
  pub state : new ≡ all_built old
  pub none : least_awaited new ≡ None
  pub part : IsPartBuilt old new

-- of several levels some are built
pub record ArePartBuilt (before now : List BookState) : Type 0 where
  pub shown : AllZip IsShownAsBefore before now
  pub kinds : AreKinds now

part_built : (before now : List BookState) → AreKinds before → HaveAllTurned IsPartBuilt before now → ArePartBuilt before now
part_built before now kinds have = record {
  shown = zipped IsShownAsBefore before now (record { as_many = have.as_many; each = λ k d there. (have.each k d there).shown });
  kinds = kinds_after unchanged before now kinds have.as_many (λ k d there. (have.each k d (omega (arith, there, have.as_many))).rules)
      (λ k d there. shown_common (get_or before k d) (get_or now k d) (have.each k d there).shown);
}

stays : (state : BookState) → IsBook state → IsPartBuilt state state
stays state rules' = record { shown = record { ground = refl; history = refl; target = refl; published = refl }; rules = rules' }

-- where memory is refused
pub refused_builds : (i : ℕ) (before now : List BookState) (e new : BookState) → AreKinds before → HaveTurned IsBuilt i before now → i < length now
    → IsShownAsBefore (get_or now i e) new → IsBook new → ArePartBuilt before (set now i new)
refused_builds i before now e new kinds have there shown rules =
    part_built before (set now i new) kinds
    (some_turned IsPartBuilt (i + 1) before (set now i new) (λ k d within. stays (get_or before k d) (kinds.each k d within))
    (one_more IsPartBuilt i before now (weaker IsBuilt IsPartBuilt i before now (λ a b built. built.part) have) e new there
    (record { shown = shown; rules = rules })))

-- the next one is not claimed
pub free_there : (i : ℕ) (before now : List BookState) (d : BookState) → All IsUnclaimed before → HaveTurned IsBuilt i before now → i < length now
    → IsUnclaimed (get_or now i d)
free_there i before now d free have there =
    subst IsUnclaimed (sym (next_is IsBuilt i before now have d)) (free i d (omega (arith, there, have.as_many)))

pub book_there : (i : ℕ) (before now : List BookState) (d : BookState) → AreKinds before → HaveTurned IsBuilt i before now → i < length now
    → IsBook (get_or now i d)
book_there i before now d kinds have there =
    subst IsBook (sym (next_is IsBuilt i before now have d)) (kinds.each i d (omega (arith, there, have.as_many)))

-- once all are built
pub record AreBuilt (before now : List BookState) : Type 0 where
  pub built : now ≡ map all_built before
  pub none : All (λ (state : BookState). least_awaited state ≡ None) now
  pub part : ArePartBuilt before now

pub are_built : (before now : List BookState) → AreKinds before → HaveAllTurned IsBuilt before now → AreBuilt before now
are_built before now kinds have = record {
  built = mapped all_built before now (record {
    as_many = have.as_many;
    each = λ k d there. record { state = (have.each k d there).state; rules = (have.each k d there).part.rules };
  });
  none = λ k d there. (have.each k d (omega (arith, there, have.as_many))).none;
  part = part_built before now kinds (record { as_many = have.as_many; each = λ k d there. (have.each k d there).part });
}
