-- The boards that are read are sound: planned faults rise, and priorities are small.
use Rattle.std.proofs.Common.{◌≡◌, ℕ, suc, zero, ◌+◌, ◌<◌, ◌≤◌, List, [], ◌∷◌, ◌++◌, length, map, get_or, Bool, true, false, ◌&&◌, Option, Some, None, Ok, if◌then◌else◌, refl, add-one, arith, nat_le}
use Rattle.std.specs.Prelude.{⊤, All, option_and_then}
use Rattle.std.specs.List.Sorted.{IsStrictlyIncreasing}
use Rattle.std.proofs.lemmas.Bool.{leb-true, leb-false}
use Rattle.std.proofs.lemmas.List.Elements.{All-nil, All-push}
use Rattle.emulated_boards.specs.declared.fault.PlannedFault.{PlannedFault}
use Rattle.emulated_boards.specs.Plans.{IsPlan}
use Rattle.serde_json.specs.Data.{Data}
use Rattle.serde_json.specs.Find.{as_number, as_u64, get}
use Rattle.release_catalogue.specs.declared.word.Word.TheVariants as words
use Rattle.release_catalogue.specs.declared.reason.Reason.TheVariants.{WrongKind, Repeated}
use Rattle.release_catalogue.specs.declared.spot.Level.TheVariants.{First, Whole}
use Rattle.release_catalogue.specs.declared.spot.Spot.{Spot}
use Rattle.release_catalogue.specs.Words.{word_text}
use Rattle.release_catalogue.specs.Reading.{◌>>=◌, at_spot, field_of, maybe, optional, or_fault, the}
use Rattle.release_catalogue.specs.Kinds.{bool_at, line_at, name_at, number_at, object_at}
use Rattle.site_types.specs.declared.site.SiteBoard.{SiteBoard}
use Rattle.site_scripts.specs.Places.{spot_in, the_here}
use Rattle.site_files.specs.declared.board.Head.{Head}
use Rattle.site_files.specs.declared.board.Rest.{Rest}
use Rattle.site_files.specs.declared.board.Placed.{Placed}
use Rattle.site_files.specs.Boards.{at_the_root, board_at, boards_at, head_at, image_at, lists_at, numbers_at, parent_at, port_at, rest_at}
use Rattle.site_files.specs.Instances.{full_line_at}
use Rattle.site_files.specs.Plans.{board_fault_at, last_call, latest, plan_at, planned_at}
use Rattle.site_files.proofs.GoodReadings.{Good, good_after, good_default, good_list, good_then, good_unless, good_weaker}

-- ---- numbers

pub good_tested : (n most : ℕ) (spot : Spot) (b : Bool) → (b ≡ true → n ≤ most) → Good (λ (n : ℕ). n ≤ most) (if b then Ok n else at_spot spot WrongKind)
good_tested n most spot true h = h refl
good_tested n most spot false h = tt

pub both : (a b : Bool) → (a && b) ≡ true → b ≡ true
both true b h = h
both false b h = cc

pub good_number : (least most : ℕ) (spot : Spot) (o : Option ℕ)
    → Good (λ (n : ℕ). n ≤ most) (or_fault spot WrongKind o >>= λ n. if nat_le least n && nat_le n most then Ok n else at_spot spot WrongKind)
good_number least most spot None = tt
good_number least most spot (Some n) = good_tested n most spot (nat_le least n && nat_le n most) (λ h. leb-true n most (both (nat_le least n) (nat_le n most) h))

good_priority : (spot : Spot) (d : Data) → Good (λ (n : ℕ). n ≤ 1000) (optional spot words.Priority (number_at 0 1000) 0 d)
good_priority spot d =
    good_default (λ (n : ℕ). n ≤ 1000) 0 (number_at 0 1000 (field_of spot words.Priority)) (get (word_text words.Priority) d) (omega arith)
    (λ (found : Data). good_number 0 1000 (field_of spot words.Priority) (option_and_then as_u64 (as_number found)))

-- ---- plans

-- A list that rises still does with a lower number before it.
rises_from : (c n : ℕ) (xs : List ℕ) → c < n → IsStrictlyIncreasing (n ∷ xs)
    → (k : ℕ) → k + 1 < length (c ∷ n ∷ xs) → get_or (c ∷ n ∷ xs) k 0 < get_or (c ∷ n ∷ xs) (k + 1) 0
rises_from c n xs first rest zero l = first
rises_from c n xs first rest (suc k) l = rw add-one (rw add-one at (rest k (omega arith)))

rises_behind : (c n : ℕ) (xs : List ℕ) → IsStrictlyIncreasing (c ∷ n ∷ xs)
    → (k : ℕ) → k + 1 < length (n ∷ xs) → get_or (n ∷ xs) k 0 < get_or (n ∷ xs) (k + 1) 0
rises_behind c n xs h k l = rw add-one (rw add-one at (h (suc k) (omega arith)))

-- A call behind the last one keeps a plan.
plan_more : (c : ℕ) (plan : List PlannedFault) (x : PlannedFault) → IsStrictlyIncreasing (c ∷ map (λ (next : PlannedFault). next.call) plan) → latest c plan < x.call
    → IsStrictlyIncreasing (c ∷ map (λ (next : PlannedFault). next.call) (plan ++ x ∷ []))
plan_more c [] x h l = rises_from c x.call [] l (λ k less. absurd (omega arith))
plan_more c (next ∷ plan) x h l =
    rises_from c next.call (map (λ (next : PlannedFault). next.call) (plan ++ x ∷ [])) (h 0 (omega arith)) (plan_more next.call plan x (rises_behind c next.call (map (λ (next : PlannedFault). next.call) plan) h) l)

planned_later : (last : ℕ) (spot : Spot) (d : Data) → Good (λ (x : PlannedFault). last < x.call) (planned_at last spot d)
unfolding planned_at
planned_later last spot d =
    let Later : PlannedFault → Type 0 = λ x. last < x.call in
    good_after Later (object_at spot d) _ (λ (here : ⊤).
    good_after Later (the_here spot words.Call (number_at 1 4294967295) d) _ (λ (call : ℕ).
    good_unless Later (nat_le call last) spot Repeated _ (λ (rises : nat_le call last ≡ false).
    good_after Later (the_here spot words.Fault board_fault_at d) _ (λ fault. leb-false call last rises))))

plan_rises : (spot : Spot) (d : Data) → Good IsPlan (plan_at spot d)
plan_rises spot d =
    good_list IsPlan 64 (λ (earlier : List PlannedFault). planned_at (last_call earlier)) spot spot Whole d
    (λ (earlier : List PlannedFault) (at : Spot) (one : Data) (h : IsPlan earlier).
    good_weaker (λ (x : PlannedFault). last_call earlier < x.call) (λ (x : PlannedFault). IsPlan (earlier ++ x ∷ [])) (planned_at (last_call earlier) at one)
    (λ (x : PlannedFault) (later : last_call earlier < x.call). plan_more 0 earlier x h later) (planned_later (last_call earlier) at one))
    (λ k l. absurd (omega arith))

-- ---- boards

pub record IsSound (board : SiteBoard) : Type 0 where
  pub rises : IsPlan board.faults
  pub low : board.sheet.priority ≤ 1000

head_low : (spot : Spot) (d : Data) → Good (λ (head : Head). head.priority ≤ 1000) (head_at spot d)
unfolding head_at
head_low spot d =
    let Low : Head → Type 0 = λ head. head.priority ≤ 1000 in
    good_after Low (the spot words.Physical full_line_at d) _ (λ physical.
    good_after Low (maybe spot words.Logical line_at d) _ (λ logical.
    good_then Low (λ (n : ℕ). n ≤ 1000) (optional spot words.Priority (number_at 0 1000) 0 d) _ (good_priority spot d) (λ priority low.
    good_after Low (the spot words.Plugin name_at d) _ (λ plugin.
    good_after Low (optional spot words.Name line_at [] d) _ (λ name.
    good_after Low (optional spot words.Vendor line_at [] d) _ (λ vendor. low))))))

rest_rises : (earlier : List Placed) (spot : Spot) (d : Data) → Good (λ (rest : Rest). IsPlan rest.faults) (rest_at earlier spot d)
unfolding rest_at
rest_rises earlier spot d =
    let Rises : Rest → Type 0 = λ rest. IsPlan rest.faults in
    good_after Rises (optional spot words.Parent (parent_at earlier) at_the_root d) _ (λ standing.
    good_after Rises (the spot words.Image image_at d) _ (λ image.
    good_after Rises (optional spot words.Unreachable bool_at false d) _ (λ unreachable.
    good_after Rises (optional spot words.PowerLow bool_at false d) _ (λ power_low.
    good_after Rises (optional spot words.Lid bool_at false d) _ (λ lid.
    good_then Rises IsPlan (optional spot words.Faults plan_at [] d) _
    (good_default IsPlan [] (plan_at (field_of spot words.Faults)) (get (word_text words.Faults) d) (λ k l. absurd (omega arith)) (λ (found : Data). plan_rises (field_of spot words.Faults) found))
    (λ faults rises. rises))))))

board_sound : (earlier : List Placed) (spot : Spot) (d : Data) → Good (λ (placed : Placed). IsSound placed.board) (board_at earlier spot d)
unfolding board_at
board_sound earlier spot d =
    let Sound : Placed → Type 0 = λ placed. IsSound placed.board in
    good_after Sound (object_at spot d) _ (λ (here : ⊤).
    good_after Sound (the spot words.Port (port_at earlier) d) _ (λ port.
    good_then Sound (λ (head : Head). head.priority ≤ 1000) (head_at spot d) _ (head_low spot d) (λ (head : Head) low.
    good_after Sound (lists_at spot d) _ (λ lists.
    good_after Sound (numbers_at spot d) _ (λ numbers.
    good_then Sound (λ (rest : Rest). IsPlan rest.faults) (rest_at earlier spot d) _ (rest_rises earlier spot d) (λ (rest : Rest) rises.
    record { rises = rises; low = low }))))))

pub boards_sound : (spot : Spot) (d : Data) → Good (λ (boards : List Placed). All (λ (placed : Placed). IsSound placed.board) boards) (boards_at spot d)
boards_sound spot d =
    let Sound : Placed → Type 0 = λ placed. IsSound placed.board in
    good_list (λ (boards : List Placed). All Sound boards) 256 board_at spot (spot_in words.Boards words.Entry) First d
    (λ (earlier : List Placed) (at : Spot) (one : Data) (h : All Sound earlier).
    good_weaker Sound (λ (x : Placed). All Sound (earlier ++ x ∷ [])) (board_at earlier at one) (λ (x : Placed) (sound : Sound x). All-push Sound earlier x h sound) (board_sound earlier at one))
    (All-nil Sound)
