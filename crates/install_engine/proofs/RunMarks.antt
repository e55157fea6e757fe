-- What a plugin's step left of a board, in one form for all six.
use Rattle.std.proofs.Common.{◌≡◌, ℕ, true, false, List, [], ◌∷◌, ◌++◌, refl, ◌⊎◌, inl, inr, lit<}
use Rattle.std.specs.Prelude.{Option, Some, None, Contains, MatchBool, Result, Ok, Err, IsErr, ⊤}
use Rattle.std.specs.List.{list_any}
use Rattle.fw_facts.specs.declared.seen.Mode.{Mode}
use Rattle.emulated_boards.specs.Boards.{BoardState}
use Rattle.emulated_boards.specs.declared.fault.BoardFault.{BoardFault}
use Rattle.emulated_boards.specs.declared.image.Image.{Image}
use Rattle.emulated_boards.specs.declared.mark.Mark.{Mark}
use Rattle.plugin_trait.specs.Steps.{KeepsRules, LoaderEntered, LoaderLeft, Programmed, Staged, Unmarked, WriteBroken, WriteWhole}
use Rattle.update_log.specs.declared.event.Op.{Op}
use Rattle.update_log.specs.Legal.{ToldWhole}
use Rattle.update_log.specs.Shows.{IsPrefix, is_began, is_entered, is_left, marks}
use Rattle.install_engine.specs.Runs.{StepLeft}

-- The marks begin a write and end it.
pub record HasWrite (entry : ℕ) (payload : Image) (ms : List Mark) : Type 0 where
  pub began : list_any is_began ms ≡ true
  pub ended : Contains ms (Mark.Ended entry payload.digest)

-- The image stayed, or it is bad and a write began, or it is the payload and its write is whole.
abbrev pub ImageGave : ℕ → Image → List Mark → Image → Image → Type 0
ImageGave entry payload ms old new =
    (new ≡ old) ⊎ (((new.raw ≡ None) × (list_any is_began ms ≡ true)) ⊎ ((new ≡ payload) × HasWrite entry payload ms))

-- The staged image stayed, or it is the payload and its write is whole.
abbrev pub StagedGave : ℕ → Image → List Mark → Option Image → Option Image → Type 0
StagedGave entry payload ms old new = (new ≡ old) ⊎ ((new ≡ Some payload) × HasWrite entry payload ms)

-- The mode changed as the marks tell.
abbrev pub ModeGave : List Mark → Mode → Mode → Type 0
ModeGave ms old new =
    MatchBool (list_any is_entered ms) (new ≡ Mode.Bootloader)
    (MatchBool (list_any is_left ms) (new ≡ Mode.Runtime)
    (MatchBool (list_any is_began ms) ((new ≡ old) ⊎ (new ≡ Mode.Bootloader)) (new ≡ old)))

-- A step put these marks behind the others.
pub record StepGave (op : Op) (entry : ℕ) (payload : Image) (ms : List Mark) (old : BoardState) (answer : Result ⊤ BoardFault) (new : BoardState) : Type 0 where
  pub rules : KeepsRules old answer new
  pub journal : new.journal ≡ old.journal ++ ms
  pub prefix : IsPrefix ms (marks op entry payload.digest)
  pub whole : ToldWhole op answer ms (marks op entry payload.digest)
  pub image : ImageGave entry payload ms old.condition.image new.condition.image
  pub staged : StagedGave entry payload ms old.condition.staged new.condition.staged
  pub mode : ModeGave ms old.condition.mode new.condition.mode

-- Some step gave.
abbrev pub Gave : Op → ℕ → Image → BoardState → Result ⊤ BoardFault → BoardState → Type 0
Gave op entry payload old answer new = (ms : List Mark) × StepGave op entry payload ms old answer new

unmarked-gave : (op : Op) (entry : ℕ) (payload : Image) (old : BoardState) (answer : Result ⊤ BoardFault) (new : BoardState) → ToldWhole op answer [] (marks op entry payload.digest) → KeepsRules old answer new → Unmarked old new → Gave op entry payload old answer new
unmarked-gave op entry payload old answer new w r u = (
  [],
  record {
    rules = r;
    journal = u.adds.journal;
    prefix = tt;
    whole = w;
    image = inl u.images.image;
    staged = inl u.images.staged;
    mode = u.mode;
  },
)

detached-gave : (entry : ℕ) (payload : Image) (old : BoardState) (answer : Result ⊤ BoardFault) (new : BoardState) → KeepsRules old answer new → Unmarked old new ⊎ LoaderEntered old new → Gave Op.Detach entry payload old answer new
detached-gave entry payload old answer new r (inl u) = unmarked-gave Op.Detach entry payload old answer new tt r u
detached-gave entry payload old answer new r (inr u) = (
  Mark.Entered ∷ [],
  record {
    rules = r;
    journal = u.adds.journal;
    prefix = (refl, tt);
    whole = tt;
    image = inl u.images.image;
    staged = inl u.images.staged;
    mode = u.mode;
  },
)

attached-gave : (entry : ℕ) (payload : Image) (old : BoardState) (answer : Result ⊤ BoardFault) (new : BoardState) → KeepsRules old answer new → Unmarked old new ⊎ LoaderLeft old new → Gave Op.Attach entry payload old answer new
attached-gave entry payload old answer new r (inl u) = unmarked-gave Op.Attach entry payload old answer new tt r u
attached-gave entry payload old answer new r (inr u) = (
  Mark.Left ∷ [],
  record {
    rules = r;
    journal = u.adds.journal;
    prefix = (refl, tt);
    whole = tt;
    image = inl u.images.image;
    staged = inl u.images.staged;
    mode = u.mode;
  },
)

-- A write that went ill needn't tell all its marks.
whole-ill : (answer : Result ⊤ BoardFault) (ms all : List Mark) → IsErr answer → ToldWhole Op.Write answer ms all
whole-ill (Ok u) ms all e = let bad : false ≡ true = e in cc
whole-ill (Err fault) ms all e = tt

whole-all : (answer : Result ⊤ BoardFault) (ms : List Mark) → ToldWhole Op.Write answer ms ms
whole-all (Ok u) ms = refl
whole-all (Err fault) ms = tt

abbrev whole_marks : ℕ → Image → List Mark
whole_marks entry payload = Mark.Began entry ∷ Mark.Ended entry payload.digest ∷ []

has-whole : (entry : ℕ) (payload : Image) → HasWrite entry payload (whole_marks entry payload)
has-whole entry payload = record { began = refl; ended = (1, lit< tt, refl) }

image-broken : (entry : ℕ) (payload old new : Image) → (new ≡ old) ⊎ (new.raw ≡ None) → ImageGave entry payload (Mark.Began entry ∷ []) old new
image-broken entry payload old new (inl e) = inl e
image-broken entry payload old new (inr e) = inr (inl (e, refl))

image-whole : (entry : ℕ) (payload : Image) (old new : BoardState) → Programmed payload old new ⊎ Staged payload old new → ImageGave entry payload (whole_marks entry payload) old.condition.image new.condition.image
image-whole entry payload old new (inl p) = inr (inr (p.image, has-whole entry payload))
image-whole entry payload old new (inr s) = inl s.image

staged-whole : (entry : ℕ) (payload : Image) (old new : BoardState) → Programmed payload old new ⊎ Staged payload old new → StagedGave entry payload (whole_marks entry payload) old.condition.staged new.condition.staged
staged-whole entry payload old new (inl p) = inl p.staged
staged-whole entry payload old new (inr s) = inr (s.staged, has-whole entry payload)

written-gave : (entry : ℕ) (payload : Image) (old : BoardState) (answer : Result ⊤ BoardFault) (new : BoardState) → KeepsRules old answer new
    → (Unmarked old new × IsErr answer) ⊎ ((WriteBroken entry old new × IsErr answer) ⊎ WriteWhole entry payload old new) → Gave Op.Write entry payload old answer new
written-gave entry payload old answer new r (inl u) = unmarked-gave Op.Write entry payload old answer new (whole-ill answer [] (whole_marks entry payload) u.1) r u.0
written-gave entry payload old answer new r (inr (inl b)) =
    let w = b.0 in (
      Mark.Began entry ∷ [],
      record {
        rules = r;
        journal = w.adds.journal;
        prefix = (refl, tt);
        whole = whole-ill answer (Mark.Began entry ∷ []) (whole_marks entry payload) b.1;
        image = image-broken entry payload old.condition.image new.condition.image w.image;
        staged = inl w.staged;
        mode = w.mode;
      },
    )
written-gave entry payload old answer new r (inr (inr w)) = (
  whole_marks entry payload,
  record {
    rules = r;
    journal = w.adds.journal;
    prefix = (refl, (refl, tt));
    whole = whole-all answer (whole_marks entry payload);
    image = image-whole entry payload old new w.images;
    staged = staged-whole entry payload old new w.images;
    mode = w.mode;
  },
)

-- Each plugin's step left so.
pub step-gave : (op : Op) (entry : ℕ) (payload : Image) (old : BoardState) (answer : Result ⊤ BoardFault) (new : BoardState) → StepLeft op entry payload old answer new → Gave op entry payload old answer new
step-gave Op.Prepare entry payload old answer new s = unmarked-gave Op.Prepare entry payload old answer new tt s.rules s.left
step-gave Op.Detach entry payload old answer new s = detached-gave entry payload old answer new s.rules s.left
step-gave Op.Write entry payload old answer new s = written-gave entry payload old answer new s.rules s.left
step-gave Op.Attach entry payload old answer new s = attached-gave entry payload old answer new s.rules s.left
step-gave Op.Reload entry payload old answer new s = unmarked-gave Op.Reload entry payload old answer new tt s.rules s.left
step-gave Op.Cleanup entry payload old answer new s = unmarked-gave Op.Cleanup entry payload old answer new tt s.rules s.left

-- The faults that are planned for a board stay, whatever a plugin's step does.
pub same-plan : (op : Op) (entry : ℕ) (image : Image) (old : BoardState) (answer : Result ⊤ BoardFault) (new : BoardState) → StepLeft op entry image old answer new → new.plan ≡ old.plan
same-plan Op.Prepare entry image old answer new s = s.rules.plan
same-plan _ entry image old answer new s = s.rules.plan
