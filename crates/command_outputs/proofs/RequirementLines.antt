-- The lines of requirements, one after the other, and the cause of one alone.
use Rattle.std.proofs.Common.{◌≡◌, ℕ, suc, ◌+◌, ◌<◌, List, [], ◌∷◌, ◌++◌, length, drop, take, Option, Some, None, refl, sym, ap, ◌∙◌, add-one, append_assoc, arith, length-drop}
use Rattle.std.specs.Prelude.{is_some, option_map, option_and_then, position, slice_get}
use Rattle.std.proofs.lemmas.List.{drop-drop}
use Rattle.fw_facts.specs.declared.machine.MachineFacts.{MachineFacts}
use Rattle.fw_facts.specs.declared.requirement.Requirement.{Requirement}
use Rattle.fw_facts.specs.declared.view.DeviceView.{DeviceView}
use Rattle.requirements.specs.declared.unmet.Unmet.{Unmet}
use Rattle.requirements.specs.declared.unmet.UnmetCause.{UnmetCause}
use Rattle.requirements.specs.Requirements.{cause, first_unmet, first_unmet_of, unmet_at}
use Rattle.command_outputs.specs.Explained.{requirement_line, requirement_lines}

-- ---- a list of one

of_only : (why : Requirement → Option UnmetCause) (r : Requirement) (o : Option UnmetCause) → why r ≡ o
    → option_map (λ (u : Unmet). u.cause) (option_and_then (unmet_at why (r ∷ [])) (position (λ (x : Requirement). is_some (why x)) (r ∷ []))) ≡ o
of_only why r None e = rw e refl
of_only why r (Some c) e = rw e (rw e refl)

pub cause_of_only : (machine : MachineFacts) (features : List (List ℕ)) (views : List DeviceView) (place : ℕ) (view : DeviceView) (r : Requirement) (list : List Requirement) (found : Option Unmet)
    → slice_get views place ≡ Some view → list ≡ r ∷ [] → found ≡ first_unmet machine features views place list
    → option_map (λ (u : Unmet). u.cause) found ≡ cause machine features views view r
unfolding first_unmet
cause_of_only machine features views place view r list found there one is =
    ap (option_map (λ (u : Unmet). u.cause)) (is ∙ ap (option_and_then (λ (v : DeviceView). first_unmet_of machine features views v list)) there)
    ∙ ap (λ (xs : List Requirement). option_map (λ (u : Unmet). u.cause) (first_unmet_of machine features views view xs)) one
    ∙ of_only (cause machine features views view) r (cause machine features views view r) refl

-- ---- one more line

by_rest : (why : Requirement → Option UnmetCause) (i : ℕ) (rest after one : List Requirement) (unmet : Option UnmetCause) (old whole new : List ℕ)
    → 0 < length rest → after ≡ drop 1 rest → one ≡ take 1 rest → old ++ requirement_lines why i rest ≡ whole
    → ((r : Requirement) → one ≡ r ∷ [] → unmet ≡ why r) → new ≡ old ++ requirement_line i unmet → new ++ requirement_lines why (suc i) after ≡ whole
by_rest why i [] after one unmet old whole new some next front so_far cause_is put = absurd (omega arith)
by_rest why i (r ∷ more) after one unmet old whole new some next front so_far cause_is put =
    let here : unmet ≡ why r = cause_is r front in
    ap (λ (t : List ℕ). t ++ requirement_lines why (suc i) after) (put ∙ ap (λ (u : Option UnmetCause). old ++ requirement_line i u) here)
    ∙ ap (λ (xs : List Requirement). (old ++ requirement_line i (why r)) ++ requirement_lines why (suc i) xs) next
    ∙ append_assoc old (requirement_line i (why r)) (requirement_lines why (suc i) more) ∙ so_far

-- a loop that puts a line for each: what is there, with what is still to come, is the whole
pub put_more : (why : Requirement → Option UnmetCause) (i : ℕ) (rs one : List Requirement) (unmet : Option UnmetCause) (old whole new : List ℕ) → i < length rs
    → one ≡ take 1 (drop i rs) → old ++ requirement_lines why i (drop i rs) ≡ whole
    → ((r : Requirement) → one ≡ r ∷ [] → unmet ≡ why r) → new ≡ old ++ requirement_line i unmet
    → new ++ requirement_lines why (i + 1) (drop (i + 1) rs) ≡ whole
put_more why i rs one unmet old whole new lt front so_far cause_is put =
    let next : drop (i + 1) rs ≡ drop 1 (drop i rs) = sym (drop-drop 1 i rs) in
    let some : 0 < length (drop i rs) = let n = length-drop i rs in omega (arith, n) in
    ap (λ (n : ℕ). new ++ requirement_lines why n (drop (i + 1) rs)) (add-one i)
    ∙ by_rest why i (drop i rs) (drop (i + 1) rs) one unmet old whole new some next front so_far cause_is put
