-- What a hold says of the row that made it.
use Rattle.std.proofs.Common.{◌≡◌, ℕ, ◌≤◌, ◌+◌, not, List, ◌∷◌, length, ap, sym, ◌∙◌, subst, arith, inl, inr}
use Rattle.std.specs.Prelude.{Option, Some, None, IfSome, ◌==◌, nat_le, option_map}
use Rattle.std.specs.List.{AllByRecursion}
use Rattle.std.proofs.lemmas.Bool.{leb-false, leb-true}
use Rattle.history_keeper.specs.declared.row.Row.{Row}
use Rattle.update_log.proofs.Lists.{All-filter, All-map, All-push, by_test}
use Rattle.update_log.proofs.Openings.{EntriesFrom}
use Rattle.update_log.proofs.Rows.{changed-grows}
use Rattle.update_log.proofs.RowsKept.{GoesOn, fixed, fixed_row, goes_on-fixed, row_of-past}
use Rattle.update_log.specs.Holding.{holds, without_client}
use Rattle.update_log.specs.Known.{Basis, row_of, rows}
use Rattle.update_log.specs.Legal.{Allowed, PendingAllowed, request_of_row}
use Rattle.update_log.specs.Shows.{Campaign}
use Rattle.update_log.specs.declared.answer.AskAnswer.{AskAnswer}
use Rattle.update_log.specs.declared.event.Event.{Event}
use Rattle.update_log.specs.declared.live.Held.{Held}
use Rattle.update_log.specs.declared.request.Request.{Request}

-- There is a row of this entry, and the request is what such a row makes.
abbrev pub RowMade : List Row → Request → ℕ → Type 0
RowMade all request entry = (entry ≤ length all) × ((f : Row) × (fixed_row all entry ≡ Some f) × (request ≡ request_of_row f))

-- A hold that a row made is of that row's request.
abbrev pub IsOfRow : List Row → Held → Type 0
IsOfRow all h = IfSome h.pending (RowMade all h.request)

-- So is each hold of a past.
abbrev pub HoldsMade : Basis → List Event → Type 0
HoldsMade basis past = AllByRecursion (IsOfRow (rows basis past)) (holds past)

pub goes_on-grows : (old new : List Row) → GoesOn old new → length old ≤ length new
goes_on-grows old new (inl e) = omega (arith, ap length e)
goes_on-grows old new (inr g) = omega (arith, changed-grows g.0 old, ap length g.2)

made-on : (old new : List Row) (request : Request) (o : Option ℕ) → GoesOn old new → IfSome o (RowMade old request) → IfSome o (RowMade new request)
made-on old new request None g k = tt
made-on old new request (Some e) g k =
    let more = goes_on-grows old new g in
    let le = k.0 in
    (omega (arith, more, le), (k.1.0, goes_on-fixed old new e g k.0 ∙ k.1.1, k.1.2))

pub row-within : (all : List Row) (e : ℕ) (row : Row) → EntriesFrom 1 all → row_of all e ≡ Some row → e ≤ length all
row-within all e row v f =
    by_test (nat_le (1 + length all) e) (e ≤ length all)
    (λ t. let none : row_of all e ≡ None = row_of-past 1 all e v (leb-true (1 + length all) e t) in let bad : Some row ≡ None = sym f ∙ none in cc)
    (λ t. let lt = leb-false (1 + length all) e t in omega (arith, lt))

made-own : (basis : Basis) (past : List Event) (client : ℕ) (request : Request) (o : Option ℕ) → EntriesFrom 1 (rows basis past) → IfSome o (λ entry. (row : Row) × PendingAllowed basis past client request entry row) → IfSome o (RowMade (rows basis past) request)
made-own basis past client request None v k = tt
made-own basis past client request (Some e) v k =
    let w = k.1 in
    (row-within (rows basis past) e k.0 v w.row_is, (fixed k.0, ap (option_map fixed) w.row_is, w.request_is))

fewer-made : (all : List Row) (client : ℕ) (hs : List Held) → AllByRecursion (IsOfRow all) hs → AllByRecursion (IsOfRow all) (without_client client hs)
fewer-made all client hs k = All-filter (IsOfRow all) (IsOfRow all) (λ (h : Held). not (h.client == client)) hs k (λ h s _. s)

step : (c : Campaign) (past : List Event) (event : Event) → EntriesFrom 1 (rows c.basis past) → Allowed c past event → HoldsMade c.basis past → AllByRecursion (IsOfRow (rows c.basis (event ∷ past))) (holds past)
    → HoldsMade c.basis (event ∷ past)
step c past (Event.Boot number time limit found boards) v a old k = tt
step c past (Event.Ask client request pending (AskAnswer.Hold blocks release)) v a old k =
    let h : Held = record { client = client; request = request; pending = pending; blocks = blocks; release = release } in
    All-push (IsOfRow (rows c.basis past)) (without_client client (holds past)) h (fewer-made (rows c.basis past) client (holds past) old) (made-own c.basis past client request pending v a.pending_is)
step c past (Event.Claim client request fetched answer) v a old k = fewer-made (rows c.basis (Event.Claim client request fetched answer ∷ past)) client (holds past) k
step c past (Event.Resume client entry fetched answer stored) v a old k = fewer-made (rows c.basis (Event.Resume client entry fetched answer stored ∷ past)) client (holds past) k
step c past (Event.GiveBack client what) v a old k = fewer-made (rows c.basis (Event.GiveBack client what ∷ past)) client (holds past) k
step c past _ v a old k = k

pub holds-step : (c : Campaign) (past : List Event) (event : Event) → EntriesFrom 1 (rows c.basis past) → GoesOn (rows c.basis past) (rows c.basis (event ∷ past)) → Allowed c past event → HoldsMade c.basis past → HoldsMade c.basis (event ∷ past)
holds-step c past event v g a old =
    step c past event v a old
    (All-map (IsOfRow (rows c.basis past)) (IsOfRow (rows c.basis (event ∷ past))) (holds past) old (λ h k. made-on (rows c.basis past) (rows c.basis (event ∷ past)) h.request h.pending g k))

-- The request of a hold that a row made is that of the row as it is now.
pub request-made : (all : List Row) (h : Held) (entry : ℕ) (row : Row) → IsOfRow all h → h.pending ≡ Some entry → row_of all entry ≡ Some row → h.request ≡ request_of_row row
request-made all h entry row k p r =
    let m : RowMade all h.request entry = subst (λ (o : Option ℕ). IfSome o (RowMade all h.request)) p k in
    let s : Some (fixed row) ≡ Some m.1.0 = sym (ap (option_map fixed) r) ∙ m.1.1 in
    let same : fixed row ≡ m.1.0 = cc in
    m.1.2 ∙ sym (ap request_of_row same)
