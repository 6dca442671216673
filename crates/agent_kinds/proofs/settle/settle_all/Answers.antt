use Rattle.std.proofs.Common.{map, ap, ◌∙◌, refl}
use Rattle.mesh_types.specs.Builds.{build_of}
use Rattle.build_queue.specs.BookState.{BookState}
use Rattle.nav_book.specs.LevelResults.{published_mesh}
use Rattle.nav_book.specs.Settling.{after_settle, settling}
use Rattle.nav_book.proofs.Settled.{settled_history, settled_whole}
use Rattle.agent_kinds.specs.Kinds.{IsShownAsBefore}
use Rattle.agent_kinds.proofs.Published.{all_free, all_settled, length_told, map_same, map_zipped, on_refusal, settled_all, settling_all}
use Rattle.agent_kinds.proofs.settle.settle_all.Goals as goal

pub build_all-requires-clause-free : goal.build_all-requires-clause-free
build_all-requires-clause-free g c =
    all_free c.args.levels.now c.aim_all-k.new.levels
    (settling_all c.args.levels.now c.put_back_all.new.levels c.aim_all-k.new.levels c.put_back_all.ensures.state c.aim_all-k.ensures.state)

pub returns-in_err-build_all-clause-history : goal.returns-in_err-build_all-clause-history
returns-in_err-build_all-clause-history g c =
    let aimed = settling_all c.args.levels.now c.put_back_all.new.levels c.aim_all-k.new.levels c.put_back_all.ensures.state c.aim_all-k.ensures.state in
    map_zipped (λ (s : BookState). s.history) IsShownAsBefore (λ a b shown. shown.history) c.aim_all-k.new.levels c.build_all.new.levels c.build_all.ensures.same
    ∙ ap (map (λ (s : BookState). s.history)) aimed ∙ map_same (λ (s : BookState). s.history) settling (λ s. refl) c.args.levels.now

pub returns-in_err-build_all-clause-refused : goal.returns-in_err-build_all-clause-refused
returns-in_err-build_all-clause-refused g c =
    let aimed = settling_all c.args.levels.now c.put_back_all.new.levels c.aim_all-k.new.levels c.put_back_all.ensures.state c.aim_all-k.ensures.state in
    on_refusal c.from_residual.result
    (map_zipped published_mesh IsShownAsBefore (λ a b shown. λ i. build_of (shown.ground i) (shown.history i) (shown.published i))
    c.aim_all-k.new.levels c.build_all.new.levels c.build_all.ensures.same
    ∙ ap (map published_mesh) aimed ∙ map_same published_mesh settling (λ s. refl) c.args.levels.now)

pub returns-in_err-publish_all-clause-history : goal.returns-in_err-publish_all-clause-history
returns-in_err-publish_all-clause-history g c =
    let aimed = settling_all c.args.levels.now c.put_back_all.new.levels c.aim_all-k.new.levels c.put_back_all.ensures.state c.aim_all-k.ensures.state in
    ap (map (λ (s : BookState). s.history)) c.in_err-publish_all.ensures.refused
    ∙ map_zipped (λ (s : BookState). s.history) IsShownAsBefore (λ a b shown. shown.history) c.aim_all-k.new.levels c.build_all.new.levels c.build_all.ensures.same
    ∙ ap (map (λ (s : BookState). s.history)) aimed ∙ map_same (λ (s : BookState). s.history) settling (λ s. refl) c.args.levels.now

pub returns-in_err-publish_all-clause-refused : goal.returns-in_err-publish_all-clause-refused
returns-in_err-publish_all-clause-refused g c =
    let aimed = settling_all c.args.levels.now c.put_back_all.new.levels c.aim_all-k.new.levels c.put_back_all.ensures.state c.aim_all-k.ensures.state in
    on_refusal c.from_residual-in_err-publish_all.result
    (ap (map published_mesh) c.in_err-publish_all.ensures.refused
    ∙ map_zipped published_mesh IsShownAsBefore (λ a b shown. λ i. build_of (shown.ground i) (shown.history i) (shown.published i))
    c.aim_all-k.new.levels c.build_all.new.levels c.build_all.ensures.same
    ∙ ap (map published_mesh) aimed ∙ map_same published_mesh settling (λ s. refl) c.args.levels.now)

pub returns-clause-state : goal.returns-clause-state
returns-clause-state g c =
    let aimed = settling_all c.args.levels.now c.put_back_all.new.levels c.aim_all-k.new.levels c.put_back_all.ensures.state c.aim_all-k.ensures.state in
    settled_all c.args.levels.now c.aim_all-k.new.levels c.build_all.new.levels c.publish_all.new.levels aimed c.in_ok-build_all.ensures.built
    c.in_ok-publish_all.ensures.state

pub returns-clause-length : goal.returns-clause-length
returns-clause-length g c = length_told c.aim_all-k.result c.args.levels.now c.put_back_all.new.levels c.put_back_all.ensures.state c.aim_all-k.ensures.length

pub returns-clause-shown : goal.returns-clause-shown
returns-clause-shown g c =
    let aimed = settling_all c.args.levels.now c.put_back_all.new.levels c.aim_all-k.new.levels c.put_back_all.ensures.state c.aim_all-k.ensures.state in
    all_settled c.args.levels.now c.aim_all-k.new.levels c.build_all.new.levels c.publish_all.new.levels aimed c.in_ok-build_all.ensures.built
    c.in_ok-build_all.ensures.none
    (settled_all c.args.levels.now c.aim_all-k.new.levels c.build_all.new.levels c.publish_all.new.levels aimed c.in_ok-build_all.ensures.built
    c.in_ok-publish_all.ensures.state)

pub returns-clause-history : goal.returns-clause-history
returns-clause-history g c =
    let aimed = settling_all c.args.levels.now c.put_back_all.new.levels c.aim_all-k.new.levels c.put_back_all.ensures.state c.aim_all-k.ensures.state in
    ap (map (λ (s : BookState). s.history))
    (settled_all c.args.levels.now c.aim_all-k.new.levels c.build_all.new.levels c.publish_all.new.levels aimed c.in_ok-build_all.ensures.built
    c.in_ok-publish_all.ensures.state)
    ∙ map_same (λ (s : BookState). s.history) after_settle settled_history c.args.levels.now

pub returns-in_err-build_all-clause-ground : goal.returns-in_err-build_all-clause-ground
returns-in_err-build_all-clause-ground g c =
    let aimed = settling_all c.args.levels.now c.put_back_all.new.levels c.aim_all-k.new.levels c.put_back_all.ensures.state c.aim_all-k.ensures.state in
    map_zipped (λ (s : BookState). s.ground) IsShownAsBefore (λ a b shown. shown.ground) c.aim_all-k.new.levels c.build_all.new.levels c.build_all.ensures.same
    ∙ ap (map (λ (s : BookState). s.ground)) aimed ∙ map_same (λ (s : BookState). s.ground) settling (λ s. refl) c.args.levels.now

pub returns-in_err-publish_all-clause-ground : goal.returns-in_err-publish_all-clause-ground
returns-in_err-publish_all-clause-ground g c =
    let aimed = settling_all c.args.levels.now c.put_back_all.new.levels c.aim_all-k.new.levels c.put_back_all.ensures.state c.aim_all-k.ensures.state in
    ap (map (λ (s : BookState). s.ground)) c.in_err-publish_all.ensures.refused
    ∙ map_zipped (λ (s : BookState). s.ground) IsShownAsBefore (λ a b shown. shown.ground) c.aim_all-k.new.levels c.build_all.new.levels c.build_all.ensures.same
    ∙ ap (map (λ (s : BookState). s.ground)) aimed ∙ map_same (λ (s : BookState). s.ground) settling (λ s. refl) c.args.levels.now

pub returns-clause-ground : goal.returns-clause-ground
returns-clause-ground g c =
    let aimed = settling_all c.args.levels.now c.put_back_all.new.levels c.aim_all-k.new.levels c.put_back_all.ensures.state c.aim_all-k.ensures.state in
    ap (map (λ (s : BookState). s.ground))
    (settled_all c.args.levels.now c.aim_all-k.new.levels c.build_all.new.levels c.publish_all.new.levels aimed c.in_ok-build_all.ensures.built
    c.in_ok-publish_all.ensures.state)
    ∙ map_same (λ (s : BookState). s.ground) after_settle settled_whole c.args.levels.now
