use Rattle.std.proofs.Common.{refl}
use Rattle.obstacle_registry.proofs.SwitchingOn.{all_on, few_so_far, none_on, one_on, place_there, room_so_far, row_off_at}
use Rattle.obstacle_registry.proofs.registry.Registry.switch_on_all.Goals as goal

pub loop-place-init : goal.loop-place-init
loop-place-init c = none_on c.args.places.now c.args.self.now c.requires.rules c.requires.places

pub switch_on_at-requires-clause-there : goal.switch_on_at-requires-clause-there
switch_on_at-requires-clause-there c =
    place_there c.args.places.now c.loop-place.place-index c.args.self.now c.loop-place.self _ c.requires.places c.loop-place.invariant c.loop-place-test.true refl

pub switch_on_at-requires-clause-off : goal.switch_on_at-requires-clause-off
switch_on_at-requires-clause-off c =
    row_off_at c.args.places.now c.loop-place.place-index c.args.self.now c.loop-place.self _ c.loop-place.invariant c.loop-place-test.true refl

pub switch_on_at-requires-clause-few : goal.switch_on_at-requires-clause-few
switch_on_at-requires-clause-few c =
    few_so_far c.args.places.now c.loop-place.place-index c.args.self.now c.loop-place.self c.requires.places c.loop-place.invariant c.loop-place-test.true

pub switch_on_at-requires-clause-room : goal.switch_on_at-requires-clause-room
switch_on_at-requires-clause-room c =
    room_so_far c.args.places.now c.loop-place.place-index c.args.self.now c.loop-place.self c.requires.places c.loop-place.invariant c.loop-place-test.true

pub loop-place-preserved : goal.loop-place-preserved
loop-place-preserved c =
    one_on c.args.places.now c.loop-place.place-index c.args.self.now c.loop-place.self c.switch_on_at.new.self _ c.requires.places c.loop-place.invariant
    c.loop-place-test.true refl c.switch_on_at.ensures.state c.switch_on_at.ensures.rules

pub returns : goal.returns
returns c = record {
  switched = all_on c.args.places.now c.loop-place.place-index c.args.self.now c.loop-place.self c.requires.places c.loop-place.invariant
      c.loop-place.auto.place-index-end c.loop-place-test.false;
  rules = c.loop-place.invariant.rules;
}
