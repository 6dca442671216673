use Rattle.std.proofs.Common.{length, ap, sym, ◌∙◌, arith}
use Rattle.std.proofs.lemmas.List.{length-set}
use Rattle.build_queue.specs.BookState.{is_claimable}
use Rattle.build_queue.specs.Representation.{state_of}
use Rattle.build_queue.specs.Waiting.{Waiting}
use Rattle.build_queue.proofs.Keeping.{is_book, job_fits, kept_claims, least_ready_is, no_job, none_claimed, one_claimed, one_job, refused_claim}
use Rattle.build_queue.proofs.Leasts.{least_passes}
use Rattle.build_queue.proofs.queue.BuildQueue.claim.Goals as goal

pub touching_list-requires-clause-there : goal.touching_list-requires-clause-there
touching_list-requires-clause-there c =
    rw c.deref.ensures (least_passes _ c.in-Some.tile (is_claimable (state_of c.self.inside)) (sym (c.in-Some.ensures ∙ least_ready_is c.self.inside c.self.invariant))).0

pub set_claimed-requires : goal.set_claimed-requires
set_claimed-requires c =
    let there = (least_passes _ c.in-Some.tile (is_claimable (state_of c.self.inside)) (sym (c.in-Some.ensures ∙ least_ready_is c.self.inside c.self.invariant))).0 in
    omega (arith, there, c.self.invariant.flags)

pub invariant_of-self : goal.invariant_of-self
invariant_of-self c =
    kept_claims c.self.inside c.set_claimed.new.self c.self.invariant
    (ap (λ (w : Waiting). w.awaited) c.set_claimed.ensures)
    (ap (λ (w : Waiting). length w.claimed) c.set_claimed.ensures ∙ length-set _ _ _)

-- no tile can be claimed
pub returns-in-None : goal.returns-in-None
returns-in-None c =
    let none = sym (c.in-None.ensures ∙ least_ready_is c.self.inside c.self.invariant) in
    rw (← c.self.view_is)
    (record {
      job = no_job (state_of c.self.inside) none;
      fit = tt;
      claimed = none_claimed (state_of c.self.inside) none;
      refused = tt;
      rules = is_book _ c.self.invariant;
    })

-- memory for the list is refused
pub returns-in_err-shapes-in-Some : goal.returns-in_err-shapes-in-Some
returns-in_err-shapes-in-Some c =
    rw (← c.self.view_is) (refused_claim (state_of c.self.inside) c.from_residual.result c.from_residual.ensures.0 (is_book _ c.self.invariant))

-- a tile is claimed
pub returns-in_ok-shapes-in-Some : goal.returns-in_ok-shapes-in-Some
returns-in_ok-shapes-in-Some c =
    let list = rw (c.deref.ensures, c.as_slice.ensures.value) at c.in_ok-shapes-in-Some.ensures in
    let found = sym (c.in-Some.ensures ∙ least_ready_is c.self.inside c.self.invariant) in
    let job = one_job c.self.inside c.in-Some.tile c.in_ok-shapes-in-Some.shapes c.self.invariant found list in
    let fit = job_fits c.self.inside c.in-Some.tile c.in_ok-shapes-in-Some.shapes c.self.invariant found list in
    let claimed = one_claimed (state_of c.self.inside) c.in-Some.tile found in
    record {
      job = rw (← c.self.view_is) job;
      fit = rw (← c.self.view_is) fit;
      claimed = rw (← c.self.view_is, c.set_claimed.ensures) claimed;
      refused = tt;
      rules = is_book _ (invariant_of-self c);
    }

pub touching_list-requires-clause-setting : goal.touching_list-requires-clause-setting
touching_list-requires-clause-setting c = rw c.deref.ensures c.self.invariant.ground.setting
