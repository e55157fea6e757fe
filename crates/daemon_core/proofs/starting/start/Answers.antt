use Rattle.std.proofs.Common.{◌≡◌, ◌-◌, ℕ, List, refl, ap, sym, ◌∙◌, arith, drop, take, length, length-drop}
use Rattle.std.proofs.lemmas.List.{take_all}
use Rattle.emulated_boards.specs.declared.mark.Mark.{Mark}
use Rattle.daemon_core.specs.Housed.{Place}
use Rattle.daemon_core.proofs.starting.start.Goals as goal

all-untold : (marks : List Mark) (k : ℕ) → take (length marks - k) (drop k marks) ≡ drop k marks
all-untold marks k = take_all (length marks - k) (drop k marks) (omega (arith, length-drop k marks))

pub returns : goal.returns
returns c =
    let marks : c.marks-marks.result.now ≡ c.unwrap-board.result.journal = c.marks-marks.ensures ∙ c.boot.ensures.same.journal in
    let told : c.place.inside.told ≡ c.args.place.now.told = ap (λ (p : Place). p.told) c.place.view_is in (
      c.unwrap-board.result,
      c.boot.new.self,
      record {
        was = ap (λ (p : Place). p.board) (sym c.place.view_is) ∙ sym c.take.ensures.value ∙ c.unwrap-board.ensures;
        is = refl;
        condition = c.boot.ensures.condition;
        same = c.boot.ensures.same;
        told = ap length marks;
        number_is = refl;
        shows = c.view-seen.ensures.shown;
        untold = c.told_of-untold.ensures ∙ all-untold c.marks-marks.result.now c.place.inside.told
            ∙ ap (λ (n : ℕ). drop n c.marks-marks.result.now) told ∙ ap (λ (m : List Mark). drop c.args.place.now.told m) marks;
      },
    )
