-- What the viewer did: which text it read, and how that text was drawn.
use Rattle.std.specs.Prelude.{ℕ, ◌≡◌, List, ◌++◌, length, map, filter, Option, ◌⊎◌}
use Rattle.std.specs.List.{flat_map, range_with_len}
use Rattle.outer_traits.specs.Sources.{Came, AtEnd, SomeCame}
use Rattle.outer_traits.specs.Sinks.{Took, TookFront}
use Rattle.report_view.specs.declared.drawn.Drawn.{Drawn}
use Rattle.report_view.specs.Events.{events, is_event, line_at, lines_of}
use Rattle.report_view.specs.Marks.{mark}
use Rattle.report_view.specs.Pages.{drawn_of, page}

-- Each event of a text is drawn exactly once: the page is the marks of a list of events, one behind the other, between a
-- front and a back; their numbers are 1, 2, 3 and so on; and their lines are the event lines of the text, in its order.
pub record DrawsEachOnce (text page : List ℕ) : Type 0 where
  pub front : List ℕ
  pub back : List ℕ
  pub parts : page ≡ front ++ flat_map (mark (lines_of text)) (events (lines_of text)) ++ back
  pub numbers : map (λ event. event.number) (events (lines_of text)) ≡ range_with_len 1 (length (events (lines_of text)))
  pub told : map (λ event. line_at (lines_of text) event.at) (events (lines_of text)) ≡ filter is_event (lines_of text)

-- The whole input came, its page was taken, and draws each event once; and so many were drawn as is said.
pub record Shown (drawn : Drawn) (left left' taken taken' : Option (List ℕ)) : Type 0 where
  pub text : List ℕ
  pub came : Came text left left'
  pub ended : AtEnd left'
  pub took : Took (page text) taken taken'
  pub once : DrawsEachOnce text (page text)
  pub said : drawn ≡ drawn_of text

-- The whole input came, and a front of its page was taken.
pub record PageFront (left left' taken taken' : Option (List ℕ)) : Type 0 where
  pub text : List ℕ
  pub came : Came text left left'
  pub took : TookFront (page text) taken taken'

-- No page was written whole: some input came and nothing was taken, or all came and a front of its page was taken.
abbrev pub ShownFront : Option (List ℕ) → Option (List ℕ) → Option (List ℕ) → Option (List ℕ) → Type 0
ShownFront left left' taken taken' = (SomeCame left left' × (taken' ≡ taken)) ⊎ PageFront left left' taken taken'
