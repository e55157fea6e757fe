-- What an event may tell and show of a board.
use Rattle.std.specs.Prelude.{◌≡◌, ◌⊎◌, ℕ, Bool, true, false, ◌||◌, ◌==◌, IsTrue, MatchBool, List, [], ◌∷◌, ◌++◌, Contains, Option, Some, None, Result, OnOk, if◌then◌else◌, slice_get, unwrap_or, option_map}
use Rattle.std.specs.List.{list_any}
use Rattle.fw_facts.specs.declared.seen.Seen.{Seen}
use Rattle.fw_facts.specs.declared.seen.Mode.{Mode}
use Rattle.fw_facts.specs.Views.{is_home}
use Rattle.emulated_boards.specs.declared.mark.Mark.{Mark}
use Rattle.emulated_boards.specs.declared.fault.BoardFault.{BoardFault}
use Rattle.history_keeper.specs.declared.row.Row.{Row}
use Rattle.update_log.specs.declared.event.Event.{Event}
use Rattle.update_log.specs.declared.event.Op.{Op}
use Rattle.update_log.specs.declared.event.BoardSeen.{BoardSeen}
use Rattle.update_log.specs.declared.answer.ClaimAnswer.{ClaimAnswer}
use Rattle.update_log.specs.declared.answer.ResumeAnswer.{ResumeAnswer}
use Rattle.update_log.specs.declared.refusal.FetchNote.{FetchNote}
use Rattle.update_log.specs.declared.facts.Facts.{Facts}
use Rattle.update_log.specs.declared.facts.BootPlan.{BootPlan}
use Rattle.update_log.specs.Holding.{live}
use Rattle.update_log.specs.Known.{Basis, row_of, is_board_of, known, tells, rows, seen}

-- A campaign: what its log stands on, what each board shows with its first image, and the plans of the boots.
pub record Campaign : Type 0 where
  pub basis : Basis
  pub first : List Seen
  pub plans : List BootPlan

abbrev pub campaign_on : Basis → List Seen → List BootPlan → Campaign
campaign_on basis first plans = record { basis = basis; first = first; plans = plans }

-- The marks of a step that goes well: of an entry, whose payload has that digest.
abbrev pub marks : Op → ℕ → List ℕ → List Mark
marks Op.Prepare entry digest = []
marks Op.Detach entry digest = Mark.Entered ∷ []
marks Op.Write entry digest = Mark.Began entry ∷ Mark.Ended entry digest ∷ []
marks Op.Attach entry digest = Mark.Left ∷ []
marks Op.Reload entry digest = []
marks Op.Cleanup entry digest = []

-- The digest of an entry's row.
abbrev pub digest_of : List Row → ℕ → List ℕ
digest_of rows entry = unwrap_or (option_map (λ r. r.digest) (row_of rows entry)) []

-- The first list begins the second.
abbrev pub IsPrefix : {X : Type 0} → List X → List X → Type 0
IsPrefix [] ys = Unit {0}
IsPrefix (x ∷ xs) [] = ⊥
IsPrefix (x ∷ xs) (y ∷ ys) = (x ≡ y) × IsPrefix xs ys

-- The marks of a board that an event tells: a boot the untold ones, and the end of a step of the
-- board of its entry those that the step made.
abbrev pub untold_of : List BoardSeen → ℕ → List Mark
untold_of boards board = unwrap_or (option_map (λ b. b.untold) (slice_get boards board)) []

abbrev pub told_by : Facts → List Row → Event → ℕ → List Mark
told_by facts rows (Event.Boot number time limit found boards) board = untold_of boards board
told_by facts rows (Event.End client entry op outcome told seen) board =
    if is_board_of facts rows entry board then told else []
told_by facts rows _ board = []

-- The marks of a board that were told, in order.
abbrev pub told : Basis → List Event → ℕ → List Mark
told basis [] board = []
told basis (event ∷ past) board =
    told basis past board ++ told_by basis.facts (rows basis past) event board

-- What the board's first image shows.
abbrev pub first_of_board : List Seen → ℕ → Seen
first_of_board first board = unwrap_or (slice_get first board) Seen.Gone

-- What is told, where the board is home by it, or else the older one.
abbrev pub home_or : Option Seen → Seen → Seen
home_or (Some (Seen.Home raw mode)) older = Seen.Home raw mode
home_or (Some Seen.Gone) older = older
home_or (Some Seen.Stranger) older = older
home_or None older = older

abbrev pub tells_home : Option Seen → Bool
tells_home (Some seen) = is_home seen
tells_home None = false

-- The last that a past shows of the board at home, or what its first image shows where it shows none.
abbrev pub home_before : Basis → List Seen → List Event → ℕ → Seen
home_before basis first [] board = first_of_board first board
home_before basis first (event ∷ past) board =
    home_or (tells basis.facts (live past) (known basis past) event board) (home_before basis first past board)

abbrev pub is_began : Mark → Bool
is_began Mark.Entered = false
is_began (Mark.Began entry) = true
is_began (Mark.Ended entry digest) = false
is_began Mark.Left = false

abbrev pub is_entered : Mark → Bool
is_entered Mark.Entered = true
is_entered (Mark.Began entry) = false
is_entered (Mark.Ended entry digest) = false
is_entered Mark.Left = false

abbrev pub is_left : Mark → Bool
is_left Mark.Entered = false
is_left (Mark.Began entry) = false
is_left (Mark.Ended entry digest) = false
is_left Mark.Left = true

-- The begin of a write was told after the board was last shown at home, or after the start of the
-- campaign where it never was. What the showing event itself told came before it showed.
abbrev pub began_since : Basis → List Seen → List Event → ℕ → Bool
began_since basis first [] board = false
began_since basis first (event ∷ past) board =
    if tells_home (tells basis.facts (live past) (known basis past) event board)
    then false
    else list_any is_began (told_by basis.facts (rows basis past) event board) || began_since basis first past board

-- The raw version of a payload that was fetched.
abbrev pub raw_fetched : Option FetchNote → Option ℕ
raw_fetched (Some (FetchNote.Whole digest len raw)) = Some raw
raw_fetched _ = None

-- That of the payload with which an entry was taken.
abbrev pub raw_of : ℕ → List Event → Option ℕ
raw_of entry [] = None
raw_of entry (Event.Claim client request fetched (ClaimAnswer.Entry taken) ∷ past) =
    if taken == entry then raw_fetched (Some fetched) else raw_of entry past
raw_of entry (Event.Resume client taken fetched ResumeAnswer.Begun stored ∷ past) =
    if taken == entry then raw_fetched fetched else raw_of entry past
raw_of entry (_ ∷ past) = raw_of entry past

-- The raw version is that of a payload whose whole write is among these marks.
abbrev pub IsWritten : List Event → List Mark → ℕ → Type 0
IsWritten past marks raw =
    (entry : ℕ) × (digest : List ℕ) × Contains marks (Mark.Ended entry digest) × (raw_of entry past ≡ Some raw)

abbrev pub HasRaw : Seen → ℕ → Type 0
HasRaw (Seen.Home raw mode) number = raw ≡ number
HasRaw Seen.Gone number = ⊥
HasRaw Seen.Stranger number = ⊥

abbrev pub HasMode : Seen → Mode → Type 0
HasMode (Seen.Home raw mode) other = mode ≡ other
HasMode Seen.Gone other = ⊥
HasMode Seen.Stranger other = ⊥

-- The raw version that a board may show, which tells these marks with it: that which it showed
-- before, or 0 where the begin of a write was told since, or that of a payload whose whole write was
-- told.
abbrev pub RawAllowed : Basis → List Seen → List Event → ℕ → List Mark → ℕ → Type 0
RawAllowed basis first past board marks raw =
    HasRaw (home_before basis first past board) raw
    ⊎ ((raw ≡ 0) × IsTrue (list_any is_began marks || began_since basis first past board))
    ⊎ IsWritten past (told basis past board ++ marks) raw

-- The mode that a board may show at the end of a step which tells these marks: bootloader mode where
-- it entered it, runtime mode where it left it, one of bootloader mode and that of before where a
-- write began, and else that of before.
abbrev pub ModeAllowed : List Mark → Seen → Mode → Type 0
ModeAllowed marks before mode =
    MatchBool (list_any is_entered marks) (mode ≡ Mode.Bootloader)
    (MatchBool (list_any is_left marks) (mode ≡ Mode.Runtime)
    (MatchBool (list_any is_began marks) (HasMode before mode ⊎ (mode ≡ Mode.Bootloader)) (HasMode before mode)))

-- Both are home, or both gone, or both strangers.
abbrev pub is_alike : Seen → Seen → Bool
is_alike (Seen.Home raw mode) (Seen.Home raw' mode') = true
is_alike Seen.Gone Seen.Gone = true
is_alike Seen.Stranger Seen.Stranger = true
is_alike _ _ = false

-- What the end of a step may show of its board: a step that went well leaves it as present as it
-- was, a board is home only where it was home, and its raw version and mode are allowed.
pub record EndShows (basis : Basis) (first : List Seen) (past : List Event) (board : ℕ) (marks : List Mark) (outcome : Result (Unit {0}) BoardFault) (shown : Seen) : Type 0 where
  pub stays : OnOk outcome (IsTrue (is_alike (seen basis past board) shown))
  pub home : IsTrue (is_home shown) → IsTrue (is_home (seen basis past board))
  pub raw : (raw : ℕ) (mode : Mode) → shown ≡ Seen.Home raw mode → RawAllowed basis first past board marks raw
  pub mode : (raw : ℕ) (mode : Mode) → shown ≡ Seen.Home raw mode → ModeAllowed marks (home_before basis first past board) mode

-- What a boot or a plug may show of a board: an allowed raw version, and bootloader mode only with 0.
pub record FreshShows (basis : Basis) (first : List Seen) (past : List Event) (board : ℕ) (marks : List Mark) (shown : Seen) : Type 0 where
  pub raw : (raw : ℕ) (mode : Mode) → shown ≡ Seen.Home raw mode → RawAllowed basis first past board marks raw
  pub mode : (raw : ℕ) → shown ≡ Seen.Home raw Mode.Bootloader → raw ≡ 0
