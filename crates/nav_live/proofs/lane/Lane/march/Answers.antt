use Rattle.std.proofs.Common.{◌≡◌, ◌∙◌, refl, sym, subst, Option, Some, None}
use Rattle.std.specs.Prelude.{IfSome}
use Rattle.agent_walks.specs.declared.walkers.Walker.{Walker}
use Rattle.agent_walks.specs.Walkers.{IsWalker}
use Rattle.nav_live.proofs.LaneLaws.{ran_idle, ran_march}
use Rattle.nav_live.proofs.lane.Lane.march.Goals as goal

none_where : (o : Option Walker) → ((walker : Walker) → o ≡ Some walker → ⊥) → o ≡ None
none_where None not = refl
none_where (Some walker) not = absurd (not walker refl)

pub march-requires : goal.march-requires
march-requires g c = record { walker = subst (λ w. IfSome w IsWalker) (sym c.take.ensures.value ∙ c.in-Some.is) c.requires.walker }

pub returns-in_default-clause-ran : goal.returns-in_default-clause-ran
returns-in_default-clause-ran g c = λ lock spoken keeps. ran_idle lock spoken c.args.self.now c.note.new.self c.args.length keeps
    (sym c.take.ensures.value ∙ none_where c.take.result c.in_default.not-Some)
    (record { text = c.in_ok-note.ensures.noted.text; adds = c.in_ok-note.ensures.noted.adds; last = c.in_ok-note.ensures.noted.last })
    c.in_ok-note.ensures.number c.in_ok-note.ensures.pass c.in_ok-note.ensures.eye (c.in_ok-note.ensures.walker ∙ c.take.ensures.after)

pub returns-clause-ran : goal.returns-clause-ran
returns-clause-ran g c = λ lock spoken keeps. ran_march lock spoken c.args.self.now c.note-2.new.self c.march.new.eye c.in-Some.walker c.args.length
    c.in_ok-k.k c.in_ok-k.answer c.in_ok-k.left keeps (sym c.take.ensures.value ∙ c.in-Some.is)
    (record { text = c.in_ok-note-2.ensures.noted.text; adds = c.in_ok-note-2.ensures.noted.adds; last = c.in_ok-note-2.ensures.noted.last })
    c.in_ok-note-2.ensures.number c.in_ok-note-2.ensures.pass c.in_ok-note-2.ensures.eye c.in_ok-note-2.ensures.walker
    (record {
      looked = c.in_ok-k.ensures.looked;
      long = c.in_ok-k.ensures.length;
      marched = c.in_ok-k.ensures.marched;
      way = c.in_ok-k.ensures.way;
      leaves = c.in_ok-k.ensures.walker;
      may_march = c.in_ok-k.ensures.may_march;
    })
