use Rattle.std.proofs.Common.{◌≡◌, [], ◌∷◌, refl, sym, subst}
use Rattle.std.specs.List.{All}
use Rattle.std.proofs.lemmas.List.Elements.{All-nil, All-cons}
use Rattle.nav_version.specs.Pairs.{EyeView, first_eye}
use Rattle.tests_paths.proofs.versions.eyes_read_what_is_published.Goals as goal

pub watched-seen-requires-clause-eyes : goal.watched-seen-requires-clause-eyes
watched-seen-requires-clause-eyes g c =
    let press = c.in_ok-press.press in
    let P : EyeView → Type 0 = λ eye. eye.pair ≡ press.pair in
    let eye = first_eye press in
    subst (All P) (sym c.in_ok-press.ensures.eyes) (All-cons P eye (eye ∷ []) refl (All-cons P eye [] refl (All-nil P)))
