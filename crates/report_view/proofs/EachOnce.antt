-- Each event of a text is drawn once.
use Rattle.std.proofs.Common.{◌≡◌, ℕ, ◌+◌, cond, List, [], ◌∷◌, ◌++◌, length, map, drop, get_or, refl, sym, ap, subst, ◌∙◌, arith}
use Rattle.std.specs.Prelude.{filter}
use Rattle.std.specs.List.{range_with_len}
use Rattle.std.proofs.lemmas.List.{get_or-drop, drop-drop}
use Rattle.report_view.specs.declared.event.Event.{Event}
use Rattle.report_view.specs.declared.line.Line.{Line}
use Rattle.report_view.specs.declared.line.Line.TheVariants as lines
use Rattle.report_view.specs.Reading.{line_read}
use Rattle.report_view.specs.Events.{event_here, events_from, is_event, line_at, lines_of, rest_of, tells_event}
use Rattle.report_view.specs.Pages.{page, page_after, page_before}
use Rattle.report_view.specs.Views.{DrawsEachOnce}

-- a line that tells no event changes no number
numbers_none : (told : ℕ) (later : ℕ → List Event) → ((n : ℕ) → map (λ (event : Event). event.number) (later n) ≡ range_with_len (n + 1) (length (later n)))
    → map (λ (event : Event). event.number) (later (told + 0)) ≡ range_with_len (told + 1) (length (later (told + 0)))
numbers_none told later h =
    let same : told + 0 ≡ told = omega arith in
    let P : ℕ → Type 0 = λ n. map (λ (event : Event). event.number) (later n) ≡ range_with_len (told + 1) (length (later n)) in
    subst P (sym same) (h told)

-- the numbers of the events of one line and of later ones
numbers_here : (line : Line) (at told : ℕ) (later : ℕ → List Event)
    → ((n : ℕ) → map (λ (event : Event). event.number) (later n) ≡ range_with_len (n + 1) (length (later n)))
    → map (λ (event : Event). event.number) (event_here line at told ++ later (told + length (event_here line at told)))
    ≡ range_with_len (told + 1) (length (event_here line at told ++ later (told + length (event_here line at told))))
numbers_here (lines.Event kind) at told later h = ap (λ (ns : List ℕ). (told + 1) ∷ ns) (h (told + 1))
numbers_here _ at told later h = numbers_none told later h

pub numbers_from : (all : List (List ℕ)) (at told : ℕ) → map (λ (event : Event). event.number) (events_from at all told) ≡ range_with_len (told + 1) (length (events_from at all told))
unfolding events_from
numbers_from [] at told = refl
numbers_from (line ∷ later) at told = numbers_here (line_read line) at told (events_from (at + 1) later) (λ n. numbers_from later (at + 1) n)

-- what stands behind a place
first_at : (whole later : List (List ℕ)) (line : List ℕ) (at : ℕ) → drop at whole ≡ line ∷ later → line_at whole at ≡ line
first_at whole later line at is =
    let same : at + 0 ≡ at = omega arith in
    sym (ap (λ (n : ℕ). get_or whole n []) same) ∙ sym (get_or-drop at whole 0 []) ∙ ap (λ (ls : List (List ℕ)). get_or ls 0 []) is

later_at : (whole later : List (List ℕ)) (line : List ℕ) (at : ℕ) → drop at whole ≡ line ∷ later → drop (at + 1) whole ≡ later
later_at whole later line at is = sym (drop-drop 1 at whole) ∙ ap (λ (ls : List (List ℕ)). drop 1 ls) is

told_here : (whole : List (List ℕ)) (text : List ℕ) (line : Line) (at told : ℕ) (later : ℕ → List Event) (rest : List (List ℕ)) → line_at whole at ≡ text
    → ((n : ℕ) → map (λ (event : Event). line_at whole event.at) (later n) ≡ rest)
    → map (λ (event : Event). line_at whole event.at) (event_here line at told ++ later (told + length (event_here line at told))) ≡ cond (tells_event line) (text ∷ rest) rest
told_here whole text (lines.Event kind) at told later rest is h = ap (λ (t : List ℕ). t ∷ map (λ (event : Event). line_at whole event.at) (later (told + 1))) is ∙ ap (λ (ls : List (List ℕ)). text ∷ ls) (h (told + 1))
told_here whole text _ at told later rest is h = h (told + 0)

pub told_from : (whole all : List (List ℕ)) (at told : ℕ) → drop at whole ≡ all → map (λ (event : Event). line_at whole event.at) (events_from at all told) ≡ filter is_event all
unfolding events_from
told_from whole [] at told is = refl
told_from whole (line ∷ later) at told is =
    told_here whole line (line_read line) at told (events_from (at + 1) later) (filter is_event later) (first_at whole later line at is)
    (λ n. told_from whole later (at + 1) n (later_at whole later line at is))

pub each_once : (text : List ℕ) → DrawsEachOnce text (page text)
each_once text = record {
  front = page_before (lines_of text);
  back = page_after (lines_of text) (rest_of text);
  parts = refl;
  numbers = numbers_from (lines_of text) 0 0;
  told = told_from (lines_of text) (lines_of text) 0 0 refl;
}
