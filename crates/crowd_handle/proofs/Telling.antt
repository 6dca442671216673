-- Where agents are, told place by place.
use Rattle.std.proofs.Common.{◌≡◌, ◌+◌, ◌<◌, ◌≤◌, ℕ, zero, suc, List, [], ◌∷◌, ◌++◌, refl, sym, ap, ◌∙◌, subst, arith, length, take, drop, get_or, set, pos}
use Rattle.nav_handle.proofs.Laying.{placed_more}
use Rattle.crowd_moves.specs.declared.agents.CrowdAgent.{CrowdAgent}
use Rattle.crowd_step.specs.declared.steering.Steering.{Steering}
use Rattle.crowd_handle.specs.CrowdSteering.{own_steering}
use Rattle.crowd_handle.specs.declared.agents.NavdAgent.{NavdAgent}
use Rattle.crowd_handle.specs.declared.agents.NavdFine.{NavdFine}
use Rattle.crowd_handle.specs.Agents.{agent_of, all_told}

module _ {X : Type 0} (told : X → NavdAgent → NavdAgent) where
  told_at : (xs : List X) (room : List NavdAgent) (p : ℕ) (x : X) (a d : NavdAgent) → p < length xs → p < length room
      → get_or (all_told told xs room) p d ≡ told (get_or xs p x) (get_or room p a)
  told_at [] room p x a d there room_there = absurd (omega (arith, there))
  told_at (y ∷ xs) [] p x a d there room_there = absurd (omega (arith, room_there))
  told_at (y ∷ xs) (r ∷ room) zero x a d there room_there = refl
  told_at (y ∷ xs) (r ∷ room) (suc p) x a d there room_there = told_at xs room p x a d (omega (arith, there)) (omega (arith, room_there))

  told_length : (xs : List X) (room : List NavdAgent) → length (all_told told xs room) ≡ length room
  told_length [] room = refl
  told_length (x ∷ xs) [] = refl
  told_length (x ∷ xs) (r ∷ room) = ap suc (told_length xs room)

-- what is not told yet is as it was
not_yet : (ys room : List NavdAgent) (p : ℕ) (d : NavdAgent) → p < length ys → p < length room → get_or (take p ys ++ drop p room) p d ≡ get_or room p d
not_yet [] room p d there room_there = absurd (omega (arith, there))
not_yet (y ∷ ys) [] p d there room_there = absurd (omega (arith, room_there))
not_yet (y ∷ ys) (r ∷ room) zero d there room_there = refl
not_yet (y ∷ ys) (r ∷ room) (suc p) d there room_there = not_yet ys room p d (omega (arith, there)) (omega (arith, room_there))

module _ {X : Type 0} (told : X → NavdAgent → NavdAgent) where
  -- one agent more
  pub told_one_more : (xs : List X) (room now : List NavdAgent) (p : ℕ) (x : X) (d said : NavdAgent) → p < length xs → p < length room
      → now ≡ take p (all_told told xs room) ++ drop p room → said ≡ told (get_or xs p x) (get_or now p d)
      → set now p said ≡ take (p + 1) (all_told told xs room) ++ drop (p + 1) room
  told_one_more xs room now p x d said there room_there so_far is =
      let ys = all_told told xs room in
      let long : p < length ys = subst (λ (n : ℕ). p < n) (sym (told_length told xs room)) room_there in
      let was : get_or now p d ≡ get_or room p d = ap (λ (zs : List NavdAgent). get_or zs p d) so_far ∙ not_yet ys room p d long room_there in
      placed_more ys room now p d said long room_there so_far (is ∙ ap (told (get_or xs p x)) was ∙ sym (told_at told xs room p x d d there room_there))

  -- all that there are
  pub told_all : (xs : List X) (room : List NavdAgent) (p : ℕ) → (p < length xs → length room ≤ p)
      → take p (all_told told xs room) ++ drop p room ≡ all_told told xs room
  told_all [] [] zero end = refl
  told_all [] [] (suc p) end = refl
  told_all [] (y ∷ room) zero end = refl
  told_all [] (y ∷ room) (suc p) end = ap (λ (rest : List NavdAgent). y ∷ rest) (told_all [] room p (λ there. absurd (omega (arith, there))))
  told_all (x ∷ xs) [] zero end = refl
  told_all (x ∷ xs) [] (suc p) end = refl
  told_all (x ∷ xs) (y ∷ room) zero end = absurd (omega (arith, end (omega arith)))
  told_all (x ∷ xs) (y ∷ room) (suc p) end =
      ap (λ (rest : List NavdAgent). told x y ∷ rest) (told_all xs room p (λ there. omega (arith, end (omega (arith, there)))))

-- values for places that a list does not have
abbrev pub no_fine : NavdFine
no_fine = record { x = pos 0; z = pos 0 }

abbrev pub no_agent : NavdAgent
no_agent = record {
  polygon = record { tile = 0; index = 0 };
  at = no_fine;
  low = 0;
  high = 0;
  stranded = 0;
  idle = 0;
  areas = 0;
  left = 0;
  radius = 0;
  full = 0;
  speed = 0;
  unused = 0;
  wish = no_fine;
  last = no_fine;
  meant = no_fine;
  waited = 0;
  tired = 0;
}

abbrev pub no_crowd_agent : CrowdAgent
no_crowd_agent = agent_of no_agent

abbrev pub no_steering : Steering
no_steering = own_steering no_agent
