use Rattle.std.proofs.Common.{◌≡◌, ◌+◌, ◌++◌, ◌∷◌, [], ℕ, Bor, List, arith, length, length-take, take, map, get_or, cond, ap, sym, ◌∙◌}
use Rattle.std.specs.Option.{option_to_list}
use Rattle.std.proofs.lemmas.List.{take_more, map_more}
use Rattle.history_keeper.specs.declared.row.Row.{Row}
use Rattle.history_keeper.specs.Histories.{GoesOn, IsFirstFaulty, retried_of, tags_of, waiting_of, is_unsettled}
use Rattle.history_keeper.proofs.Prefixes.{first_faulty, still_history, history_front, history_numbered}
use Rattle.history_keeper.proofs.Following.{clash, free, moved, yes_from, no_from, on_true, waiting_more, retried_more}
use Rattle.history_keeper.proofs.history.first_faulty.Goals as goal

pub goes_on-requires : goal.goes_on-requires
goes_on-requires c = history_numbered (take c.loop-at.at c.args.rows.now) c.loop-at.invariant.history

pub returns-then-not-branch-clause-found : goal.returns-then-not-branch-clause-found
returns-then-not-branch-clause-found c =
    let old : List (List ℕ) = map (λ (tag : Bor (List ℕ)). tag.now) c.loop-at.tags.keys in
    let before : List Row = take c.loop-at.at c.args.rows.now in
    let row : Row = get_or c.args.rows.now c.loop-at.at c.index-rows-at.result in
    let long : length before ≡ c.loop-at.at = omega (arith, length-take c.loop-at.at c.args.rows.now, c.loop-at-test.true) in
    first_faulty c.args.rows.now c.loop-at.at c.index-rows-at.result c.loop-at-test.true c.loop-at.invariant.history
    (λ entry link. clash before row
    (λ g. no_from c.in_ok-goes_on.field-0 (GoesOn before old c.loop-at.waiting.keys c.loop-at.retried.keys c.index-rows-at.result) c.in_ok-goes_on.ensures.yes c.if-not-branch.true
    (moved before _ _ _ _ _ _ _ _ (sym c.loop-at.invariant.tags) (sym c.loop-at.invariant.waiting) (sym c.loop-at.invariant.retried) (sym c.index-rows-at.is) g))
    (entry ∙ ap (λ (n : ℕ). n + 1) (sym long))
    link)

pub returns-then-not-branch-clause-valid : goal.returns-then-not-branch-clause-valid
returns-then-not-branch-clause-valid c = λ h.
    let faulty : IsFirstFaulty c.args.rows.now c.loop-at.at = returns-then-not-branch-clause-found c in
    absurd (faulty.breaks (history_front c.args.rows.now (c.loop-at.at + 1) h))

pub loop-at-preserved : goal.loop-at-preserved
loop-at-preserved c =
    let old : List (List ℕ) = map (λ (tag : Bor (List ℕ)). tag.now) c.loop-at.tags.keys in
    let rows : List Row = c.args.rows.now in
    let at : ℕ = c.loop-at.at in
    let row : Row = get_or rows at c.index-rows-at.result in
    let long : length (take at rows) ≡ at = omega (arith, length-take at rows, c.loop-at-test.true) in
    let g : GoesOn (take at rows) (tags_of (take at rows)) (waiting_of (take at rows)) (retried_of (take at rows)) row =
    moved (take at rows) _ _ _ _ _ _ _ _ c.loop-at.invariant.tags c.loop-at.invariant.waiting c.loop-at.invariant.retried c.index-rows-at.is
    (yes_from c.in_ok-goes_on.field-0 (GoesOn (take at rows) old c.loop-at.waiting.keys c.loop-at.retried.keys c.index-rows-at.result) c.in_ok-goes_on.ensures.yes c.if-not-branch.false) in
    let f = g.follows in
    let l = g.links in
    record {
      history = still_history rows at c.index-rows-at.result c.loop-at-test.true c.loop-at.invariant.history (f.entry ∙ ap (λ (n : ℕ). n + 1) long) (free (take at rows) row g) l.linked;
      tags = on_true c.in_ok-goes_on.field-0 _ c.in_ok-goes_on.ensures.tags c.if-not-branch.false
          ∙ ap (λ (ts : List (List ℕ)). ts ++ c.index-rows-at.result.tag ∷ []) c.loop-at.invariant.tags
          ∙ ap (λ (r : Row). tags_of (take at rows) ++ r.tag ∷ []) c.index-rows-at.is
          ∙ sym (map_more (λ (r : Row). r.tag) rows at c.index-rows-at.result c.loop-at-test.true);
      waiting = on_true c.in_ok-goes_on.field-0 _ c.in_ok-goes_on.ensures.waiting c.if-not-branch.false
          ∙ ap (λ (ws : List (List ℕ)). cond (is_unsettled c.index-rows-at.result.state) (ws ++ c.index-rows-at.result.device ∷ []) ws) c.loop-at.invariant.waiting
          ∙ ap (λ (r : Row). cond (is_unsettled r.state) (waiting_of (take at rows) ++ r.device ∷ []) (waiting_of (take at rows))) c.index-rows-at.is
          ∙ sym (waiting_more (take at rows) row)
          ∙ ap waiting_of (sym (take_more rows at c.index-rows-at.result c.loop-at-test.true));
      retried = on_true c.in_ok-goes_on.field-0 _ c.in_ok-goes_on.ensures.retried c.if-not-branch.false
          ∙ ap (λ (es : List ℕ). es ++ option_to_list c.index-rows-at.result.retry_of) c.loop-at.invariant.retried
          ∙ ap (λ (r : Row). retried_of (take at rows) ++ option_to_list r.retry_of) c.index-rows-at.is
          ∙ sym (retried_more (take at rows) row)
          ∙ ap retried_of (sym (take_more rows at c.index-rows-at.result c.loop-at-test.true));
    }
