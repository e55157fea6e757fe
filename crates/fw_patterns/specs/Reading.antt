-- How a pattern is read: its syntax, or the first fault with its place.
use Rattle.std.specs.Prelude.{◌≡◌, ◌⊎◌, ℕ, ◌+◌, ◌==◌, nat_lt, nat_le, Bool, true, false, ◌&&◌, ◌||◌, not, if◌then◌else◌, List, [], ◌∷◌, ◌++◌, map, length, Option, Some, None, Result, Ok, Err, MatchResult, position}
use Rattle.std.specs.Char.{is_ascii_punctuation}
use Rattle.std.specs.List.{before_first, list_any}
use Rattle.fw_patterns.specs.declared.fault.PatternFault.{PatternFault}
use Rattle.fw_patterns.specs.declared.fault.PatternFault.TheVariants.{OutOfProfile, Unclosed, BadRange, TooLong, NoMemory}
use Rattle.fw_patterns.specs.declared.signs.Sign.{Sign}
use Rattle.fw_patterns.specs.declared.signs.SignStep.{SignStep}
use Rattle.fw_patterns.specs.declared.signs.SignStep.TheVariants.{Backslash, Whole, Bad}
use Rattle.fw_patterns.specs.declared.classes.ClassEnd.{ClassEnd}
use Rattle.fw_patterns.specs.declared.classes.ClassEnd.TheVariants.{Closed, PatternEnd, Fault}
use Rattle.fw_patterns.specs.declared.classes.Front.{Front}
use Rattle.fw_patterns.specs.declared.classes.Front.TheVariants.{Nothing, Member, Dash, Ranged, LastDash}
use Rattle.fw_patterns.specs.declared.classes.MemberStep.{MemberStep}
use Rattle.fw_patterns.specs.declared.classes.MemberStep.TheVariants.{Wait, Add, NoMember}
use Rattle.fw_patterns.specs.declared.marks.Mark.{Mark}
use Rattle.fw_patterns.specs.declared.marks.Mark.TheVariants.{AtomMark, RepeatMark, StartMark, EndMark, BarMark, StrayMark}
use Rattle.fw_patterns.specs.declared.marks.MarkStep.{MarkStep}
use Rattle.fw_patterns.specs.declared.marks.MarkStep.TheVariants.{Skipped, Marked, Stopped}
use Rattle.fw_patterns.specs.declared.marks.Placed.{Placed}
use Rattle.fw_patterns.specs.declared.order.Before.{Before}
use Rattle.fw_patterns.specs.declared.order.Before.TheVariants.{BranchStart, Joint, AnAtom, AnEnd}
use Rattle.fw_patterns.specs.declared.syntax.ByteRange.{ByteRange}
use Rattle.fw_patterns.specs.declared.syntax.Atom.{Atom}
use Rattle.fw_patterns.specs.declared.syntax.Atom.TheVariants.{Any, Byte, Class}
use Rattle.fw_patterns.specs.declared.syntax.Repeat.{Repeat}
use Rattle.fw_patterns.specs.declared.syntax.Repeat.TheVariants.{Once, AnyTimes, SomeTimes, AtMostOnce}
use Rattle.fw_patterns.specs.declared.syntax.Piece.{Piece}
use Rattle.fw_patterns.specs.declared.syntax.Branch.{Branch}

-- an answer is what the definition says, but for want of memory
abbrev pub Gives : {A B : Type 0} → (A → B) → Result A PatternFault → Result B PatternFault → Type 0
Gives seen answer expected = MatchResult answer (λ value. expected ≡ Ok (seen value)) (λ fault. (fault ≡ NoMemory) ⊎ (expected ≡ Err fault))

-- the bytes of patterns: printable ASCII
abbrev pub is_profile : ℕ → Bool
is_profile b = nat_le 0x20 b && nat_le b 0x7E

-- what is read of a pattern, and the fault behind it, or none at the pattern's end
pub record Stream (X : Type 0) : Type 0 where
  pub items : List X
  pub end : Option PatternFault

abbrev pub stop : {X : Type 0} → Option PatternFault → Stream X
stop end = record { items = []; end = end }

abbrev pub ahead : {X : Type 0} → X → Stream X → Stream X
ahead item stream = record { items = item ∷ stream.items; end = stream.end }

-- ---- signs: a byte, or a backslash and the punctuation that it makes literal

abbrev pub backslash : ℕ
backslash = 92

abbrev pub sign : ℕ → Bool → ℕ → Sign
sign at escaped byte = record { at = at; escaped = escaped; byte = byte }

-- what a byte is behind a backslash at a place, or behind none
abbrev pub sign_step : Option ℕ → ℕ → ℕ → SignStep
sign_step None at b =
    if b == backslash then Backslash
    else if is_profile b then Whole (sign at false b)
    else Bad (OutOfProfile at)
sign_step (Some place) at b = if is_ascii_punctuation b then Whole (sign place true b) else Bad (OutOfProfile place)

abbrev pub sign_then : SignStep → Stream Sign → Stream Sign → Stream Sign
sign_then Backslash behind_backslash behind_sign = behind_backslash
sign_then (Whole s) behind_backslash behind_sign = ahead s behind_sign
sign_then (Bad fault) behind_backslash behind_sign = stop (Some fault)

-- a backslash at the pattern's end is not closed
abbrev pub pending_fault : Option ℕ → Option PatternFault
pending_fault None = None
pending_fault (Some place) = Some (Unclosed place)

-- the signs from a place on
unfoldable pub signs : Option ℕ → ℕ → List ℕ → Stream Sign
signs pending at [] = stop (pending_fault pending)
signs pending at (b ∷ rest) = sign_then (sign_step pending at b) (signs (Some at) (at + 1) rest) (signs None (at + 1) rest)

-- a byte that no backslash makes literal
abbrev pub is_plain : ℕ → Sign → Bool
is_plain byte s = not s.escaped && s.byte == byte

-- whether signs begin with a byte that no backslash makes literal
abbrev pub begins_with : ℕ → List Sign → Bool
begins_with byte [] = false
begins_with byte (s ∷ more) = is_plain byte s

-- ---- classes

abbrev pub opens : Sign → Bool
opens s = is_plain 91 s

abbrev pub closes : Sign → Bool
closes s = is_plain 93 s

abbrev pub is_dash : Sign → Bool
is_dash s = is_plain 45 s

abbrev pub range : ℕ → ℕ → ByteRange
range low high = record { low = low; high = high }

abbrev pub single : ℕ → ByteRange
single byte = range byte byte

-- a range in front of what is read behind it
abbrev pub with_range : ByteRange → Result (List ByteRange) PatternFault → Result (List ByteRange) PatternFault
with_range r (Ok ranges) = Ok (r ∷ ranges)
with_range r (Err fault) = Err fault

-- a class whose members are read: it must be closed
abbrev pub close_class : ℕ → ClassEnd → List ByteRange → Result (List ByteRange) PatternFault
close_class bracket Closed last = Ok last
close_class bracket PatternEnd last = Err (Unclosed bracket)
close_class bracket (Fault fault) last = Err fault

-- a `-` behind a range must be the last member
abbrev pub last_dash : ℕ → ClassEnd → ℕ → Result (List ByteRange) PatternFault
last_dash bracket Closed at = Ok (single 45 ∷ [])
last_dash bracket PatternEnd at = Err (Unclosed bracket)
last_dash bracket (Fault fault) at = Err (OutOfProfile at)

-- the last ranges of a class, by what stands directly in front of its end: a last `-` stands for itself
abbrev pub last_ranges : ℕ → ClassEnd → Front → Result (List ByteRange) PatternFault
last_ranges bracket end Nothing = close_class bracket end []
last_ranges bracket end (Member at low) = close_class bracket end (single low ∷ [])
last_ranges bracket end (Dash at low) = close_class bracket end (single low ∷ single 45 ∷ [])
last_ranges bracket end Ranged = close_class bracket end []
last_ranges bracket end (LastDash at) = last_dash bracket end at

-- what a sign is behind what stands directly in front of it: a part of a range, or the end of one
abbrev pub member_step : Front → Sign → MemberStep
member_step Nothing s = if opens s then NoMember (OutOfProfile s.at) else Wait (Member s.at s.byte)
member_step (Member at low) s =
    if opens s then NoMember (OutOfProfile s.at)
    else if is_dash s then Wait (Dash at low)
    else Add (single low) (Member s.at s.byte)
member_step (Dash at low) s =
    if opens s then NoMember (OutOfProfile s.at)
    else if nat_lt s.byte low then NoMember (BadRange at)
    else Add (range low s.byte) Ranged
member_step Ranged s =
    if opens s then NoMember (OutOfProfile s.at)
    else if is_dash s then Wait (LastDash s.at)
    else Wait (Member s.at s.byte)
member_step (LastDash at) s = NoMember (OutOfProfile at)

abbrev pub member_then : MemberStep → (Front → Result (List ByteRange) PatternFault) → Result (List ByteRange) PatternFault
member_then (Wait next) behind = behind next
member_then (Add r next) behind = with_range r (behind next)
member_then (NoMember fault) behind = Err fault

-- the ranges of a class's members. A member alone is the range from itself to itself.
unfoldable pub members : ℕ → ClassEnd → Front → List Sign → Result (List ByteRange) PatternFault
members bracket end front [] = last_ranges bracket end front
members bracket end front (s ∷ more) = member_then (member_step front s) (λ next. members bracket end next more)

-- what follows the members that no `]` closes
abbrev pub unclosed_by : Option PatternFault → ClassEnd
unclosed_by None = PatternEnd
unclosed_by (Some fault) = Fault fault

abbrev pub class_end : Bool → Option PatternFault → ClassEnd
class_end closed end = if closed then Closed else unclosed_by end

abbrev pub as_class : Bool → Result (List ByteRange) PatternFault → Result Atom PatternFault
as_class negated (Ok ranges) = Ok (Class negated ranges)
as_class negated (Err fault) = Err fault

-- the class behind `[` and a `^` where there is one: its members stand before the first `]`, and the first one is none
abbrev pub class_of : ℕ → Bool → Option PatternFault → List Sign → Result Atom PatternFault
class_of bracket negated end [] = as_class negated (members bracket (class_end false end) Nothing [])
class_of bracket negated end (first ∷ more) =
    if closes first then Err (OutOfProfile first.at)
    else as_class negated (members bracket (class_end (list_any closes (first ∷ more)) end) Nothing (before_first closes (first ∷ more)))

-- the class behind a `[`
abbrev pub class_at : ℕ → Option PatternFault → List Sign → Result Atom PatternFault
class_at bracket end [] = class_of bracket false end []
class_at bracket end (first ∷ more) = if is_plain 94 first then class_of bracket true end more else class_of bracket false end (first ∷ more)

-- ranges in front of those that are read behind them
abbrev pub in_front : List ByteRange → Result (List ByteRange) PatternFault → Result (List ByteRange) PatternFault
in_front ranges (Ok behind) = Ok (ranges ++ behind)
in_front ranges (Err fault) = Err fault

-- ---- marks: what each sign means outside a class, and each class as one atom

-- brackets that have no meaning outside a class
abbrev pub is_stray : ℕ → Bool
is_stray b = b == 40 || b == 41 || b == 123 || b == 125 || b == 93

-- what a sign means outside a class
abbrev pub mark_of : Sign → Mark
mark_of s =
    if s.escaped then AtomMark (Byte s.byte)
    else if s.byte == 46 then AtomMark Any
    else if s.byte == 42 then RepeatMark AnyTimes
    else if s.byte == 43 then RepeatMark SomeTimes
    else if s.byte == 63 then RepeatMark AtMostOnce
    else if s.byte == 94 then StartMark
    else if s.byte == 36 then EndMark
    else if s.byte == 124 then BarMark
    else if is_stray s.byte then StrayMark
    else AtomMark (Byte s.byte)

abbrev pub placed : ℕ → Mark → Placed
placed at mark = record { at = at; mark = mark }

-- a class as an atom, and its fault
abbrev pub class_step : ℕ → Result Atom PatternFault → MarkStep
class_step at (Ok atom) = Marked (placed at (AtomMark atom)) true
class_step at (Err fault) = Stopped fault

-- what a sign is within a class up to its `]`, and outside one
abbrev pub mark_step : Bool → Option PatternFault → Sign → List Sign → MarkStep
mark_step true end s behind = Skipped (not (closes s))
mark_step false end s behind =
    if opens s then class_step s.at (class_at s.at end behind) else Marked (placed s.at (mark_of s)) false

abbrev pub mark_then : MarkStep → (Bool → Stream Placed) → Stream Placed
mark_then (Skipped inside) behind = behind inside
mark_then (Marked p inside) behind = ahead p (behind inside)
mark_then (Stopped fault) behind = stop (Some fault)

-- the marks of signs
unfoldable pub marks : Bool → Option PatternFault → List Sign → Stream Placed
marks inside end [] = stop end
marks inside end (s ∷ more) = mark_then (mark_step inside end s more) (λ next. marks next end more)

-- ---- order: a repeat stands directly behind an atom, `^` first in a branch and `$` last

-- what a mark leaves directly in front of the next one, or its fault
abbrev pub step : Before → ℕ → Mark → Result Before PatternFault
step (AnEnd end) at BarMark = Ok BranchStart
step (AnEnd end) at (AtomMark atom) = Err (OutOfProfile end)
step (AnEnd end) at (RepeatMark repeat) = Err (OutOfProfile end)
step (AnEnd end) at StartMark = Err (OutOfProfile end)
step (AnEnd end) at EndMark = Err (OutOfProfile end)
step (AnEnd end) at StrayMark = Err (OutOfProfile end)
step AnAtom at (RepeatMark repeat) = Ok Joint
step BranchStart at (RepeatMark repeat) = Err (OutOfProfile at)
step Joint at (RepeatMark repeat) = Err (OutOfProfile at)
step BranchStart at StartMark = Ok Joint
step Joint at StartMark = Err (OutOfProfile at)
step AnAtom at StartMark = Err (OutOfProfile at)
step before at (AtomMark atom) = Ok AnAtom
step before at EndMark = Ok (AnEnd at)
step before at BarMark = Ok BranchStart
step before at StrayMark = Err (OutOfProfile at)

-- the fault behind all marks: behind `$` it is that this is not the pattern's end
abbrev pub last_fault : Before → Option PatternFault → Option PatternFault
last_fault (AnEnd at) (Some fault) = Some (OutOfProfile at)
last_fault (AnEnd at) None = None
last_fault BranchStart end = end
last_fault Joint end = end
last_fault AnAtom end = end

abbrev pub fault_after : Result Before PatternFault → (Before → Option PatternFault) → Option PatternFault
fault_after (Ok next) behind = behind next
fault_after (Err fault) behind = Some fault

-- the first fault of marks and of what ends them
unfoldable pub first_fault : Before → Option PatternFault → List Placed → Option PatternFault
first_fault before end [] = last_fault before end
first_fault before end (p ∷ more) = fault_after (step before p.at p.mark) (λ next. first_fault next end more)

-- ---- branches

abbrev pub branch : Bool → Bool → List Piece → Branch
branch from_start to_end pieces = record { from_start = from_start; to_end = to_end; pieces = pieces }

-- the first branch changed
abbrev pub onto_first : (Branch → Branch) → List Branch → List Branch
onto_first change [] = []
onto_first change (first ∷ more) = change first ∷ more

abbrev pub tied_to_start : Branch → Branch
tied_to_start b = branch true b.to_end b.pieces

abbrev pub tied_to_end : Branch → Branch
tied_to_end b = branch b.from_start true b.pieces

abbrev pub with_piece : Atom → Repeat → Branch → Branch
with_piece atom repeat b = branch b.from_start b.to_end (record { atom = atom; repeat = repeat } ∷ b.pieces)

abbrev pub repeat_or_once : Mark → Repeat
repeat_or_once (RepeatMark repeat) = repeat
repeat_or_once (AtomMark atom) = Once
repeat_or_once StartMark = Once
repeat_or_once EndMark = Once
repeat_or_once BarMark = Once
repeat_or_once StrayMark = Once

-- the repeat that stands directly behind an atom
abbrev pub repeat_of : List Placed → Repeat
repeat_of [] = Once
repeat_of (p ∷ more) = repeat_or_once p.mark

-- a mark in front of the branches behind it
abbrev pub with_mark : Mark → Repeat → List Branch → List Branch
with_mark (AtomMark atom) repeat behind = onto_first (with_piece atom repeat) behind
with_mark (RepeatMark own) repeat behind = behind
with_mark StartMark repeat behind = onto_first tied_to_start behind
with_mark EndMark repeat behind = onto_first tied_to_end behind
with_mark BarMark repeat behind = branch false false [] ∷ behind
with_mark StrayMark repeat behind = behind

-- the branches between the bars, each with its atoms as pieces
unfoldable pub branches : List Placed → List Branch
branches [] = branch false false [] ∷ []
branches (p ∷ more) = with_mark p.mark (repeat_of more) (branches more)

-- ---- patterns

-- the most bytes of a pattern
abbrev pub most_bytes : ℕ
most_bytes = 255

abbrev pub fault_or : Option PatternFault → List Branch → Result (List Branch) PatternFault
fault_or (Some fault) read = Err fault
fault_or None read = Ok read

-- marks and what ends them, as a pattern
abbrev pub pattern_of : Stream Placed → Result (List Branch) PatternFault
pattern_of s = fault_or (first_fault BranchStart s.end s.items) (branches s.items)

-- the marks of a regex
abbrev pub regex_marks : List ℕ → Stream Placed
regex_marks text = let all = signs None 0 text in marks false all.end all.items

-- what a regex reads to
unfoldable pub regex_read : List ℕ → Result (List Branch) PatternFault
regex_read text =
    if nat_lt most_bytes (length text) then Err (TooLong (length text))
    else pattern_of (regex_marks text)

-- a byte that no glob has: `[`, `]`, `\` and what is no printable ASCII
abbrev pub is_no_glob_byte : ℕ → Bool
is_no_glob_byte b = b == 91 || b == 93 || b == 92 || not (is_profile b)

-- `*` is any run of bytes, `?` one byte, every other byte itself
abbrev pub glob_piece : ℕ → Piece
glob_piece b =
    if b == 42 then record { atom = Any; repeat = AnyTimes }
    else if b == 63 then record { atom = Any; repeat = Once }
    else record { atom = Byte b; repeat = Once }

-- one branch, tied to the start and the end
abbrev pub glob_pattern : List ℕ → List Branch
glob_pattern text = branch true true (map glob_piece text) ∷ []

abbrev pub glob_unless : Option ℕ → List ℕ → Result (List Branch) PatternFault
glob_unless (Some at) text = Err (OutOfProfile at)
glob_unless None text = Ok (glob_pattern text)

-- what a glob reads to
unfoldable pub glob_read : List ℕ → Result (List Branch) PatternFault
glob_read text =
    if nat_lt most_bytes (length text) then Err (TooLong (length text))
    else glob_unless (position is_no_glob_byte text) text
