-- Each of a board's own steps, and doing nothing, is what a plugin's step may do.
use Rattle.std.proofs.Common.{◌≡◌, ℕ, ◌+◌, ◌≤◌, ◌<◌, ◌⊎◌, inl, inr, Bool, true, false, is_some, [], ◌∷◌, ◌++◌, length, Option, Some, None, Result, Err, IsTrue, OnOk, OnErr, IsErr, if◌then◌else◌, refl, ap, ◌∙◌, arith}
use Rattle.std.specs.Prelude.{⊤}
use Rattle.fw_facts.specs.declared.seen.Mode.{Mode}
use Rattle.fw_facts.specs.declared.seen.Mode.TheVariants.{Runtime, Bootloader}
use Rattle.emulated_boards.specs.declared.fault.BoardFault.{BoardFault}
use Rattle.emulated_boards.specs.declared.fault.BoardFault.TheVariants as faults
use Rattle.emulated_boards.specs.declared.image.Image.{Image}
use Rattle.emulated_boards.specs.declared.mark.Mark.{Mark}
use Rattle.emulated_boards.specs.declared.mark.Mark.TheVariants.{Entered, Began, Left}
use Rattle.emulated_boards.specs.declared.condition.Condition.{Condition}
use Rattle.emulated_boards.specs.Boards.{BoardState, BoardStep, Step, enter_loader, program, stage, leave_loader, look, left_by, marks_by, answer_by, can_enter, can_leave}
use Rattle.emulated_boards.specs.Plans.{planned}
use Rattle.plugin_trait.specs.Steps.{IsAway, KeepsRules, Unmarked, LoaderEntered, LoaderLeft, SameOrLoader, WriteBroken, WriteWhole, Plain, Detached, Attached, Written}

-- ---- the rules that every step keeps

-- What a board step leaves, with its fault named.
record Outcome (old : BoardState) (step : Step) (fault : Option BoardFault) (answer : Result ⊤ BoardFault) (new : BoardState) : Type 0 where
  faults : new.faults ≡ old.faults + (if is_some fault then 1 else 0)
  answers : answer ≡ answer_by fault
  condition : new.condition ≡ left_by step fault old.condition
  journal : new.journal ≡ old.journal ++ marks_by step fault old.condition
  room : old.room ≤ new.room + length (marks_by step fault old.condition)

outcome_of : (old : BoardState) (step : Step) (answer : Result ⊤ BoardFault) (new : BoardState) → BoardStep old step answer new → Outcome old step (planned old.plan new.calls) answer new
outcome_of old step answer new h = record { faults = h.faults; answers = h.answers; condition = h.condition; journal = h.journal; room = h.room }

keeps_presence : (b : Bool) (mode : Mode) (it : Condition) → (if b then record it { mode = mode } else it).presence ≡ it.presence
keeps_presence true mode it = refl
keeps_presence false mode it = refl

-- A board step takes a board out of its port by a fault alone.
presence_by : (step : Step) (fault : Option BoardFault) (it : Condition)
    → ((left_by step fault it).presence ≡ it.presence) ⊎ (IsTrue (is_some fault) × IsAway (left_by step fault it).presence)
presence_by enter_loader None it = inl (keeps_presence (can_enter it) Bootloader it)
presence_by leave_loader None it = inl (keeps_presence (can_leave it) Runtime it)
presence_by enter_loader (Some faults.Gone) it = inr (refl, tt)
presence_by enter_loader (Some faults.Stranger) it = inr (refl, tt)
presence_by (program entry image) (Some faults.Gone) it = inr (refl, tt)
presence_by (program entry image) (Some faults.Stranger) it = inr (refl, tt)
presence_by (stage entry image) (Some faults.Gone) it = inr (refl, tt)
presence_by (stage entry image) (Some faults.Stranger) it = inr (refl, tt)
presence_by leave_loader (Some faults.Gone) it = inr (refl, tt)
presence_by leave_loader (Some faults.Stranger) it = inr (refl, tt)
presence_by look (Some faults.Gone) it = inr (refl, tt)
presence_by look (Some faults.Stranger) it = inr (refl, tt)
presence_by _ _ it = inl refl

rose : (fault : Option BoardFault) (old new : ℕ) → new ≡ old + (if is_some fault then 1 else 0) → IsTrue (is_some fault) → old < new
rose None old new e some = cc
rose (Some fault) old new e some = omega arith

well : (fault : Option BoardFault) (old new : ℕ) (answer : Result ⊤ BoardFault) → new ≡ old + (if is_some fault then 1 else 0) → answer ≡ answer_by fault → OnOk answer (new ≡ old)
well None old new answer e a = rw a (omega arith)
well (Some fault) old new answer e a = rw a tt

failed : (fault : Option BoardFault) (old new : ℕ) (answer : Result ⊤ BoardFault) → new ≡ old + (if is_some fault then 1 else 0) → answer ≡ answer_by fault → OnErr answer (old < new)
failed None old new answer e a = rw a tt
failed (Some fault) old new answer e a = rw a (omega arith)

presence_after : (old new : BoardState) (fault : Option BoardFault) (after : Condition) → new.condition ≡ after
    → new.faults ≡ old.faults + (if is_some fault then 1 else 0)
    → (after.presence ≡ old.condition.presence) ⊎ (IsTrue (is_some fault) × IsAway after.presence)
    → (new.condition.presence ≡ old.condition.presence) ⊎ ((old.faults < new.faults) × IsAway new.condition.presence)
presence_after old new fault after e f (inl same) = inl (ap (λ c. c.presence) e ∙ same)
presence_after old new fault after e f (inr away) = inr (rose fault old.faults new.faults f away.0, rw e away.1)

pub keeps_rules : (old : BoardState) (step : Step) (answer : Result ⊤ BoardFault) (new : BoardState) → BoardStep old step answer new → KeepsRules old answer new
keeps_rules old step answer new h =
    let fault = planned old.plan new.calls in
    record {
      by_steps = record { steps = step ∷ []; taken = (new, answer, h, refl) };
      well = well fault old.faults new.faults answer h.faults h.answers;
      failed = failed fault old.faults new.faults answer h.faults h.answers;
      plan = h.plan;
      presence = presence_after old new fault (left_by step fault old.condition) h.condition h.faults (presence_by step fault old.condition);
    }

-- ---- what each leaves

-- A step that left no mark, and of the condition only the presence to change.
no_mark : (old new : BoardState) (after : Condition) → new.condition ≡ after → new.journal ≡ old.journal ++ [] → old.room ≤ new.room + length {A = Mark} []
    → after.image ≡ old.condition.image → after.staged ≡ old.condition.staged → after.mode ≡ old.condition.mode → Unmarked old new
no_mark old new after e journal room image staged mode = record {
  adds = record { journal = journal; room = room };
  images = record { image = ap (λ c. c.image) e ∙ image; staged = ap (λ c. c.staged) e ∙ staged };
  mode = ap (λ c. c.mode) e ∙ mode;
}

look_left : (old new : BoardState) (fault : Option BoardFault) (answer : Result ⊤ BoardFault) → Outcome old look fault answer new → Unmarked old new
look_left old new None answer o = no_mark old new _ o.condition o.journal o.room refl refl refl
look_left old new (Some faults.Failed) answer o = no_mark old new _ o.condition o.journal o.room refl refl refl
look_left old new _ answer o = no_mark old new _ o.condition o.journal o.room refl refl refl

pub look_is_plain : (old : BoardState) (answer : Result ⊤ BoardFault) (new : BoardState) → BoardStep old look answer new → Plain old answer new
look_is_plain old answer new h = record {
  rules = keeps_rules old look answer new h;
  left = look_left old new _ answer (outcome_of old look answer new h);
}

entered : (b : Bool) (old new : BoardState) → new.condition ≡ (if b then record old.condition { mode = Bootloader } else old.condition)
    → new.journal ≡ old.journal ++ (if b then Entered ∷ [] else []) → old.room ≤ new.room + length (if b then Entered ∷ [] else [])
    → Unmarked old new ⊎ LoaderEntered old new
entered false old new e journal room = inl (no_mark old new _ e journal room refl refl refl)
entered true old new e journal room = inr record {
  adds = record { journal = journal; room = room };
  images = record { image = ap (λ c. c.image) e; staged = ap (λ c. c.staged) e };
  mode = ap (λ c. c.mode) e;
}

enter_left : (old new : BoardState) (fault : Option BoardFault) (answer : Result ⊤ BoardFault) → Outcome old enter_loader fault answer new → Unmarked old new ⊎ LoaderEntered old new
enter_left old new None answer o = entered (can_enter old.condition) old new o.condition o.journal o.room
enter_left old new (Some faults.Failed) answer o = inl (no_mark old new _ o.condition o.journal o.room refl refl refl)
enter_left old new _ answer o = inl (no_mark old new _ o.condition o.journal o.room refl refl refl)

pub enter_is_detached : (old : BoardState) (answer : Result ⊤ BoardFault) (new : BoardState) → BoardStep old enter_loader answer new → Detached old answer new
enter_is_detached old answer new h = record {
  rules = keeps_rules old enter_loader answer new h;
  left = enter_left old new _ answer (outcome_of old enter_loader answer new h);
}

left_loader : (b : Bool) (old new : BoardState) → new.condition ≡ (if b then record old.condition { mode = Runtime } else old.condition)
    → new.journal ≡ old.journal ++ (if b then Left ∷ [] else []) → old.room ≤ new.room + length (if b then Left ∷ [] else [])
    → Unmarked old new ⊎ LoaderLeft old new
left_loader false old new e journal room = inl (no_mark old new _ e journal room refl refl refl)
left_loader true old new e journal room = inr record {
  adds = record { journal = journal; room = room };
  images = record { image = ap (λ c. c.image) e; staged = ap (λ c. c.staged) e };
  mode = ap (λ c. c.mode) e;
}

leave_left : (old new : BoardState) (fault : Option BoardFault) (answer : Result ⊤ BoardFault) → Outcome old leave_loader fault answer new → Unmarked old new ⊎ LoaderLeft old new
leave_left old new None answer o = left_loader (can_leave old.condition) old new o.condition o.journal o.room
leave_left old new (Some faults.Failed) answer o = inl (no_mark old new _ o.condition o.journal o.room refl refl refl)
leave_left old new _ answer o = inl (no_mark old new _ o.condition o.journal o.room refl refl refl)

pub leave_is_attached : (old : BoardState) (answer : Result ⊤ BoardFault) (new : BoardState) → BoardStep old leave_loader answer new → Attached old answer new
leave_is_attached old answer new h = record {
  rules = keeps_rules old leave_loader answer new h;
  left = leave_left old new _ answer (outcome_of old leave_loader answer new h);
}

-- ---- writes

is_err : (fault : BoardFault) (answer : Result ⊤ BoardFault) → answer ≡ Err fault → IsErr answer
is_err fault answer e = rw e refl

broken : (entry : ℕ) (old new : BoardState) (after : Condition) → new.condition ≡ after
    → new.journal ≡ old.journal ++ Began entry ∷ [] → old.room ≤ new.room + 1
    → (after.image ≡ old.condition.image) ⊎ (after.image.raw ≡ None) → after.staged ≡ old.condition.staged → SameOrLoader old.condition.mode after.mode
    → WriteBroken entry old new
broken entry old new after e journal room image staged mode = record {
  adds = record { journal = journal; room = room };
  image = rw e image;
  staged = ap (λ c. c.staged) e ∙ staged;
  mode = rw e mode;
}

same_or_loader : (b : Bool) (mode : Mode) → SameOrLoader mode (if b then mode else Bootloader)
same_or_loader true mode = inl refl
same_or_loader false mode = inr refl

Left_by_write : ℕ → Image → BoardState → Result ⊤ BoardFault → BoardState → Type 0
Left_by_write entry payload old answer new = (Unmarked old new × IsErr answer) ⊎ ((WriteBroken entry old new × IsErr answer) ⊎ WriteWhole entry payload old new)

program_left : (entry : ℕ) (image : Image) (old new : BoardState) (fault : Option BoardFault) (answer : Result ⊤ BoardFault) → Outcome old (program entry image) fault answer new → Left_by_write entry image old answer new
unfolding Left_by_write
program_left entry image old new None answer o = inr (inr record {
  adds = record { journal = o.journal; room = o.room };
  images = inl record { image = ap (λ c. c.image) o.condition; staged = ap (λ c. c.staged) o.condition };
  mode = rw o.condition (same_or_loader (is_some image.raw) old.condition.mode);
})
program_left entry image old new (Some faults.Failed) answer o = inl (no_mark old new _ o.condition o.journal o.room refl refl refl, is_err _ answer o.answers)
program_left entry image old new _ answer o = inr (inl (broken entry old new _ o.condition o.journal o.room (inr refl) refl (inr refl), is_err _ answer o.answers))

pub program_is_written : (entry : ℕ) (image : Image) (old : BoardState) (answer : Result ⊤ BoardFault) (new : BoardState) → BoardStep old (program entry image) answer new → Written entry image old answer new
unfolding Left_by_write
program_is_written entry image old answer new h = record {
  rules = keeps_rules old (program entry image) answer new h;
  left = program_left entry image old new _ answer (outcome_of old (program entry image) answer new h);
}

stage_left : (entry : ℕ) (image : Image) (old new : BoardState) (fault : Option BoardFault) (answer : Result ⊤ BoardFault) → Outcome old (stage entry image) fault answer new → Left_by_write entry image old answer new
unfolding Left_by_write
stage_left entry image old new None answer o = inr (inr record {
  adds = record { journal = o.journal; room = o.room };
  images = inr record { image = ap (λ c. c.image) o.condition; staged = ap (λ c. c.staged) o.condition };
  mode = inl (ap (λ c. c.mode) o.condition);
})
stage_left entry image old new (Some faults.Failed) answer o = inl (no_mark old new _ o.condition o.journal o.room refl refl refl, is_err _ answer o.answers)
stage_left entry image old new _ answer o = inr (inl (broken entry old new _ o.condition o.journal o.room (inl refl) refl (inl refl), is_err _ answer o.answers))

pub stage_is_written : (entry : ℕ) (image : Image) (old : BoardState) (answer : Result ⊤ BoardFault) (new : BoardState) → BoardStep old (stage entry image) answer new → Written entry image old answer new
unfolding Left_by_write
stage_is_written entry image old answer new h = record {
  rules = keeps_rules old (stage entry image) answer new h;
  left = stage_left entry image old new _ answer (outcome_of old (stage entry image) answer new h);
}
