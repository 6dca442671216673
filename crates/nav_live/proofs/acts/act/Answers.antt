use Rattle.std.proofs.Common.{subst, sym, inl, rules}
use Rattle.nav_ground.specs.declared.history.Entry.{Entry}
use Rattle.build_queue.specs.Steps.{after_aim, after_put_back}
use Rattle.turn_lock.specs.Growth.{Grows}
use Rattle.nav_live.specs.declared.book.LiveAct.{LiveAct}
use Rattle.nav_live.specs.ActRules.{Does, lane_of}
use Rattle.nav_live.specs.LiveBooks.{Steps}
use Rattle.nav_live.specs.Roots.{root_of}
use Rattle.nav_live.proofs.TouchedLaws.{asked_touched, claimed_touched, published_touched, same_touched, submitted_after}
use Rattle.nav_live.proofs.ActLaws.{asked_did, asked_grows, asked_root, claim_keeps, publish_keeps}
use Rattle.nav_live.proofs.acts.act.Goals as goal

pub returns-in-Ask-clause-root : goal.returns-in-Ask-clause-root
returns-in-Ask-clause-root g c = asked_root _ _ _ _ _ c.ask.ensures

pub returns-in-Ask-clause-grows : goal.returns-in-Ask-clause-grows
returns-in-Ask-clause-grows g c =
    subst (λ (act : LiveAct). Grows (λ (entry : Entry). entry.lane) (lane_of act) c.args.book.now.state.history c.ask.new.book.state.history) (sym c.in-Ask.is)
    (asked_grows _ _ _ _ _ c.ask.ensures)

pub returns-in-Ask-clause-did : goal.returns-in-Ask-clause-did
returns-in-Ask-clause-did g c =
    subst (λ (act : LiveAct). Does (root_of c.args.book.now) c.args.book.now.state.history act c.ask.result c.ask.new.book.state.history) (sym c.in-Ask.is)
    (asked_did _ _ _ _ _ c.ask.ensures)

pub returns-in-Ask-clause-step : goal.returns-in-Ask-clause-step
returns-in-Ask-clause-step g c = subst (λ (act : LiveAct). Steps c.args.book.now act c.ask.result c.ask.new.book) (sym c.in-Ask.is) c.ask.ensures

pub returns-in-Claim-clause-root : goal.returns-in-Claim-clause-root
returns-in-Claim-clause-root g c = (claim_keeps c.args.book.now c.claim.new.book c.claim.result c.claim.ensures.steps).0

pub returns-in-Claim-clause-grows : goal.returns-in-Claim-clause-grows
returns-in-Claim-clause-grows g c =
    subst (λ (act : LiveAct). Grows (λ (entry : Entry). entry.lane) (lane_of act) c.args.book.now.state.history c.claim.new.book.state.history) (sym c.in-Claim.is)
    (inl (claim_keeps c.args.book.now c.claim.new.book c.claim.result c.claim.ensures.steps).1)

pub returns-in-Claim-clause-did : goal.returns-in-Claim-clause-did
returns-in-Claim-clause-did g c =
    subst (λ (act : LiveAct). Does (root_of c.args.book.now) c.args.book.now.state.history act c.claim.result c.claim.new.book.state.history) (sym c.in-Claim.is)
    (((claim_keeps c.args.book.now c.claim.new.book c.claim.result c.claim.ensures.steps).1, c.claim.ensures.asks))

pub returns-in-Claim-clause-step : goal.returns-in-Claim-clause-step
returns-in-Claim-clause-step g c = subst (λ (act : LiveAct). Steps c.args.book.now act c.claim.result c.claim.new.book) (sym c.in-Claim.is) c.claim.ensures.steps

pub returns-in-Publish-clause-root : goal.returns-in-Publish-clause-root
returns-in-Publish-clause-root g c = (publish_keeps c.args.book.now c.publish.new.book c.publish.result c.publish.ensures.steps).0

pub returns-in-Publish-clause-grows : goal.returns-in-Publish-clause-grows
returns-in-Publish-clause-grows g c =
    subst (λ (act : LiveAct). Grows (λ (entry : Entry). entry.lane) (lane_of act) c.args.book.now.state.history c.publish.new.book.state.history) (sym c.in-Publish.is)
    (inl (publish_keeps c.args.book.now c.publish.new.book c.publish.result c.publish.ensures.steps).1)

pub returns-in-Publish-clause-did : goal.returns-in-Publish-clause-did
returns-in-Publish-clause-did g c =
    subst (λ (act : LiveAct). Does (root_of c.args.book.now) c.args.book.now.state.history act c.publish.result c.publish.new.book.state.history) (sym c.in-Publish.is)
    (((publish_keeps c.args.book.now c.publish.new.book c.publish.result c.publish.ensures.steps).1, c.publish.ensures.tells))

pub returns-in-Publish-clause-step : goal.returns-in-Publish-clause-step
returns-in-Publish-clause-step g c = subst (λ (act : LiveAct). Steps c.args.book.now act c.publish.result c.publish.new.book) (sym c.in-Publish.is) c.publish.ensures.steps

pub returns-in-Aim-clause-step : goal.returns-in-Aim-clause-step
returns-in-Aim-clause-step g c = search rules

pub returns-in-Submit-clause-step : goal.returns-in-Submit-clause-step
returns-in-Submit-clause-step g c = search rules

pub returns-in-Ask-clause-touched : goal.returns-in-Ask-clause-touched
returns-in-Ask-clause-touched g c = asked_touched c.args.book.now c.ask.new.book _ _ _ c.ask.ensures c.requires.touched

pub returns-in-Aim-clause-touched : goal.returns-in-Aim-clause-touched
returns-in-Aim-clause-touched g c = same_touched c.args.book.now c.aim.new.self (after_aim c.args.book.now.state) c.aim.ensures.did.aimed (record { each = c.requires.touched.each })

pub returns-in-Claim-clause-touched : goal.returns-in-Claim-clause-touched
returns-in-Claim-clause-touched g c = claimed_touched c.args.book.now c.claim.new.book _ c.claim.ensures.steps c.requires.touched

pub returns-in-PutBack-clause-touched : goal.returns-in-PutBack-clause-touched
returns-in-PutBack-clause-touched g c =
    same_touched c.args.book.now c.put_back.new.self (after_put_back c.args.book.now.state c.in-PutBack.job.tile) c.put_back.ensures.did.back
    (record { each = c.requires.touched.each })

pub returns-in-Submit-clause-touched : goal.returns-in-Submit-clause-touched
returns-in-Submit-clause-touched g c =
    submitted_after c.args.book.now c.submit.new.self _ _ c.submit.ensures.did.stored c.submit.ensures.did.rules c.requires.touched

pub returns-in-Publish-clause-touched : goal.returns-in-Publish-clause-touched
returns-in-Publish-clause-touched g c = published_touched c.args.book.now c.publish.new.book _ c.publish.ensures.steps c.requires.touched
