-- How each act on a book under the lock is one step of the book.
use Rattle.std.specs.Prelude.{◌≡◌, ℕ, ◌⊎◌, length, Option, Some, None, Result, Ok, Err}
use Rattle.nav_ground.specs.declared.history.Reply.{Reply}
use Rattle.nav_version.specs.Lists.{ToldView}
use Rattle.build_queue.specs.declared.live.HistoryFull.{HistoryFull}
use Rattle.build_queue.specs.declared.live.Job.{Job}
use Rattle.build_queue.specs.BookState.{BookState}
use Rattle.build_queue.specs.Steps.{request_answer, requested, after_aim, next_job, after_claim, after_put_back, submission, after_submit, publication, after_publish}
use Rattle.nav_book.specs.Results.{published_entries}
use Rattle.nav_book.specs.Views.{BookView}
use Rattle.nav_live.specs.declared.book.LiveAct.{LiveAct}
use Rattle.nav_live.specs.declared.book.LiveAct.TheVariants as acts
use Rattle.nav_live.specs.declared.book.LiveDone.{LiveDone}
use Rattle.nav_live.specs.declared.book.LiveDone.TheVariants as dones

-- the answer of a request, and of a claim
abbrev pub asked : Result (ℕ × Reply) HistoryFull → LiveDone
asked (Ok (number, reply)) = dones.Asked number reply
asked (Err full) = dones.HistoryFull full.len

abbrev pub claimed : Option Job → LiveDone
claimed (Some job) = dones.Claimed job
claimed None = dones.NoTile

-- what is told of a book: its pair, and the entries that are published
abbrev pub told_of : BookView → ToldView
told_of book = record { pair = book.pair; entries = published_entries book.state }

-- the book after a step
abbrev pub having : BookView → BookState → BookView
having book state = record { state = state; pair = book.pair }

-- memory was refused, and nothing has changed
abbrev pub IsRefused : BookView → LiveDone → BookView → Type 0
IsRefused book done after = (done ≡ dones.NoMemory) × (after ≡ book)

-- each act is one step of the book, with that step's answer; a claim and a publish may be refused memory
abbrev pub Steps : BookView → LiveAct → LiveDone → BookView → Type 0
Steps book (acts.Ask lane request) done after =
    (done ≡ asked (request_answer book.state request)) × (after ≡ having book (requested book.state lane request))
Steps book acts.Aim done after = (done ≡ dones.Aim (length book.state.history)) × (after ≡ having book (after_aim book.state))
Steps book acts.Claim done after =
    ((done ≡ claimed (next_job book.state)) × (after ≡ having book (after_claim book.state))) ⊎ IsRefused book done after
Steps book (acts.PutBack job) done after = (done ≡ dones.Back) × (after ≡ having book (after_put_back book.state job.tile))
Steps book (acts.Submit made) done after =
    (done ≡ dones.Submitted (submission book.state made.tile made.shapes)) × (after ≡ having book (after_submit book.state made.tile made.shapes))
Steps book acts.Publish done after =
    ((done ≡ dones.Published (publication book.state) (told_of after)) × (after ≡ having book (after_publish book.state))) ⊎ IsRefused book done after
