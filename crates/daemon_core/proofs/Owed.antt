-- How each event changes what is owed.
use Rattle.std.proofs.Common.{◌≡◌, ℕ, Bool, true, false, not, List, [], ◌∷◌, ◌++◌, refl, ap, sym, ◌≤◌, ◌+◌, ◌*◌, arith, length, subst, le_refl}
use Rattle.std.specs.Prelude.{Some, Result, ◌==◌, filter, sum_by}
use Rattle.std.proofs.lemmas.List.{length_push}
use Rattle.std.proofs.lemmas.List.Sums.{sum_by_push, sum_by-le-sum_by}
use Rattle.std.proofs.lemmas.Bool.{eqb-true}
use Rattle.emulated_boards.specs.declared.fault.BoardFault.{BoardFault}
use Rattle.emulated_boards.specs.declared.mark.Mark.{Mark}
use Rattle.fw_facts.specs.declared.seen.Seen.{Seen}
use Rattle.history_keeper.specs.Histories.{IsHistory}
use Rattle.update_log.proofs.Lists.{by_test, eqb-self, find-passes, filter-short}
use Rattle.update_log.specs.Holding.{blocks_fetched, blocks_fetched_if, hold, holds, live, live_entry}
use Rattle.update_log.specs.Legal.{Allowed, BootTakes, IsLegal}
use Rattle.update_log.specs.Once.{strokes}
use Rattle.update_log.specs.Pasts.{off}
use Rattle.update_log.specs.Shows.{Campaign}
use Rattle.update_log.specs.declared.answer.AskAnswer.{AskAnswer}
use Rattle.update_log.specs.declared.answer.ClaimAnswer.{ClaimAnswer}
use Rattle.update_log.specs.declared.answer.ResumeAnswer.{ResumeAnswer}
use Rattle.update_log.specs.declared.event.Back.{Back}
use Rattle.update_log.specs.declared.event.Event.{Event}
use Rattle.update_log.specs.declared.event.Op.{Op}
use Rattle.update_log.specs.declared.live.Held.{Held}
use Rattle.update_log.specs.declared.live.LiveEntry.{LiveEntry}
use Rattle.daemon_core.proofs.ClaimOpen.{open-entry_live}
use Rattle.daemon_core.proofs.OwedLists.{filter-takes, sum-less, sum-takes}
use Rattle.daemon_core.proofs.OwedStrokes.{FewStrokes, few-strokes}
use Rattle.daemon_core.specs.Owed.{entry_needs, hold_needs, owed}

-- What is owed by a past where its boot is off, or isn't.
abbrev pub owed_by : Bool → List Event → ℕ
owed_by is_off past = hold_needs is_off * length (holds past) + sum_by (λ l. entry_needs is_off (length (strokes l.entry past))) (live past)

-- What an event may add to what is owed: a hold two, and an entry that is taken fifteen.
abbrev pub adds : Event → ℕ
adds (Event.Ask client request pending (AskAnswer.Hold blocks release)) = 2
adds (Event.Claim client request fetched (ClaimAnswer.Entry entry)) = 15
adds (Event.Resume client entry fetched ResumeAnswer.Begun stored) = 15
adds _ = 0

-- The event takes from the room that was kept for what is out.
abbrev pub spends : Event → Bool
spends (Event.Start client entry op) = true
spends (Event.End client entry op outcome told seen) = true
spends (Event.Finish client entry state stored) = true
spends (Event.GiveBack client what) = true
spends _ = false

-- what a live entry needs in a boot that runs
abbrev entry_on : List Event → LiveEntry → ℕ
entry_on past l = entry_needs false (length (strokes l.entry past))

abbrev entry_off : List Event → LiveEntry → ℕ
entry_off past l = entry_needs true (length (strokes l.entry past))

-- a boot that goes off owes no more
pub off-within : (past : List Event) → owed_by true past ≤ owed_by false past
off-within past =
    let sum : sum_by (entry_off past) (live past) ≤ sum_by (entry_on past) (live past) = sum_by-le-sum_by (entry_off past) (entry_on past) (live past) (λ l. omega arith) in
    omega arith

pub off-less_live : (past : List Event) (entry : ℕ) (l : LiveEntry) → live_entry past entry ≡ Some l → owed_by true past + 1 ≤ owed_by false past
off-less_live past entry l e =
    let sum : sum_by (entry_off past) (live past) + 1 ≤ sum_by (entry_on past) (live past) = sum-less (entry_off past) (entry_on past) (λ (x : LiveEntry). x.entry == entry) (live past) l (λ x. omega arith) e (omega arith) in
    omega arith

pub owed-within : (past : List Event) → owed past ≤ owed_by false past
owed-within past = let less = off-within past in by_test (off past) _ (λ t. rw t less) (λ t. rw t (omega arith))

pub owed-when_on : (past : List Event) → off past ≡ false → owed past ≡ owed_by false past
owed-when_on past o = rw o refl

pub owed-when_off : (past : List Event) → off past ≡ true → owed past ≡ owed_by true past
owed-when_off past o = rw o refl

-- an event of a boot that isn't off
on-step : (past : List Event) (event : Event) (n : ℕ) → off past ≡ false → owed_by false (event ∷ past) + n ≤ owed_by false past → owed (event ∷ past) + n ≤ owed past
on-step past event n o h = let w = owed-within (event ∷ past) in let e = owed-when_on past o in omega (arith, w, e, h)

on-adds : (past : List Event) (event : Event) (n : ℕ) → off past ≡ false → owed_by false (event ∷ past) ≤ owed_by false past + n → owed (event ∷ past) ≤ owed past + n
on-adds past event n o h = let w = owed-within (event ∷ past) in let e = owed-when_on past o in omega (arith, w, e, h)

-- the two parts of what is owed in a boot that runs
owed-less : (past : List Event) (event : Event) (n : ℕ) → length (holds (event ∷ past)) ≤ length (holds past) → sum_by (entry_on (event ∷ past)) (live (event ∷ past)) + n ≤ sum_by (entry_on past) (live past) → owed_by false (event ∷ past) + n ≤ owed_by false past
owed-less past event n h s = omega (arith, h, s)

owed-more : (past : List Event) (event : Event) (m n : ℕ) → length (holds (event ∷ past)) ≤ length (holds past) + m → sum_by (entry_on (event ∷ past)) (live (event ∷ past)) ≤ sum_by (entry_on past) (live past) + n → owed_by false (event ∷ past) ≤ owed_by false past + (2 * m + n)
owed-more past event m n h s = omega (arith, h, s)

-- one stroke more
owed-start : (past : List Event) (event : Event) (entry : ℕ) (l : LiveEntry) → FewStrokes (event ∷ past) → holds (event ∷ past) ≡ holds past → live (event ∷ past) ≡ live past → live_entry past entry ≡ Some l
    → ((e : ℕ) → length (strokes e past) ≤ length (strokes e (event ∷ past))) → length (strokes entry past) + 1 ≤ length (strokes entry (event ∷ past)) → owed_by false (event ∷ past) + 1 ≤ owed_by false past
owed-start past event entry l f h v found grows more =
    let same : l.entry ≡ entry = eqb-true l.entry entry (find-passes (λ x. x.entry == entry) (live past) l found) in
    let here : length (strokes l.entry past) + 1 ≤ length (strokes l.entry (event ∷ past)) = subst (λ (e : ℕ). length (strokes e past) + 1 ≤ length (strokes e (event ∷ past))) (sym same) more in
    let less : entry_on (event ∷ past) l + 1 ≤ entry_on past l = omega (arith, f l.entry) in
    let sum : sum_by (entry_on (event ∷ past)) (live past) + 1 ≤ sum_by (entry_on past) (live past) =
    sum-less (entry_on (event ∷ past)) (entry_on past) (λ x. x.entry == entry) (live past) l (λ y. let g = grows y.entry in omega (arith, g)) found less in
    let lives : sum_by (entry_on (event ∷ past)) (live (event ∷ past)) ≡ sum_by (entry_on (event ∷ past)) (live past) = ap (sum_by (entry_on (event ∷ past))) v in
    let held : length (holds (event ∷ past)) ≡ length (holds past) = ap length h in
    owed-less past event 1 (omega (arith, held)) (omega (arith, sum, lives))

-- an event that takes no entry: no more holds, and the same entries with as many strokes
owed-quiet : (past : List Event) (event : Event) → off past ≡ false → length (holds (event ∷ past)) ≤ length (holds past) → live (event ∷ past) ≡ live past → ((e : ℕ) → strokes e (event ∷ past) ≡ strokes e past) → owed (event ∷ past) ≤ owed past + 0
owed-quiet past event o h v s =
    let sum : sum_by (entry_on (event ∷ past)) (live past) ≤ sum_by (entry_on past) (live past) =
    sum_by-le-sum_by (entry_on (event ∷ past)) (entry_on past) (live past) (λ x. let g = ap length (s x.entry) in omega (arith, g)) in
    let lives : sum_by (entry_on (event ∷ past)) (live (event ∷ past)) ≡ sum_by (entry_on (event ∷ past)) (live past) = ap (sum_by (entry_on (event ∷ past))) v in
    on-adds past event 0 o (owed-more past event 0 0 (omega (arith, h)) (omega (arith, sum, lives)))

-- an event that takes one
owed-taken : (past : List Event) (event : Event) (l : LiveEntry) → off past ≡ false → length (holds (event ∷ past)) ≤ length (holds past) → live (event ∷ past) ≡ live past ++ l ∷ [] → ((e : ℕ) → strokes e (event ∷ past) ≡ strokes e past) → owed (event ∷ past) ≤ owed past + 15
owed-taken past event l o h v s =
    let sum : sum_by (entry_on (event ∷ past)) (live past) ≤ sum_by (entry_on past) (live past) =
    sum_by-le-sum_by (entry_on (event ∷ past)) (entry_on past) (live past) (λ x. let g = ap length (s x.entry) in omega (arith, g)) in
    let lives : sum_by (entry_on (event ∷ past)) (live (event ∷ past)) ≡ sum_by (entry_on (event ∷ past)) (live past ++ l ∷ []) = ap (sum_by (entry_on (event ∷ past))) v in
    let pushed = sum_by_push (entry_on (event ∷ past)) (live past) l in
    let most : entry_on (event ∷ past) l ≤ 15 = omega arith in
    on-adds past event 15 o (owed-more past event 0 15 (omega (arith, h)) (omega (arith, sum, lives, pushed, most)))

fewer : (client : ℕ) (hs : List Held) → length (filter (λ (h : Held). not (h.client == client)) hs) ≤ length hs
fewer client hs = filter-short (λ (h : Held). not (h.client == client)) hs

no-more : (n : ℕ) → n ≤ n + 0
no-more n = omega arith

-- what an event adds
pub owed-adds : (c : Campaign) (past : List Event) (event : Event) → BootTakes past event → Allowed c past event → spends event ≡ false → owed (event ∷ past) ≤ owed past + adds event
owed-adds c past (Event.Boot number time limit found boards) b a s =
    let w = owed-within (Event.Boot number time limit found boards ∷ past) in
    let none : owed_by false (Event.Boot number time limit found boards ∷ past) ≡ 0 = refl in omega (arith, w, none)
owed-adds c past (Event.Ask client request pending (AskAnswer.Hold blocks release)) b a s =
    let event : Event = Event.Ask client request pending (AskAnswer.Hold blocks release) in
    let few = fewer client (holds past) in
    let pushed = length_push (filter (λ (h : Held). not (h.client == client)) (holds past)) (record { client = client; request = request; pending = pending; blocks = blocks; release = release }) in
    on-adds past (Event.Ask client request pending (AskAnswer.Hold blocks release)) 2 (b.on refl)
    (owed-more past event 1 0 (omega (arith, few, pushed)) (no-more (sum_by (entry_on past) (live past))))
owed-adds c past (Event.Claim client request fetched (ClaimAnswer.Entry entry)) b a s =
    owed-taken past (Event.Claim client request fetched (ClaimAnswer.Entry entry)) (record { client = client; entry = entry; blocks = blocks_fetched fetched }) (b.on refl) (fewer client (holds past)) refl (λ e. refl)
owed-adds c past (Event.Claim client request fetched (ClaimAnswer.Kept entry state)) b a s =
    owed-quiet past (Event.Claim client request fetched (ClaimAnswer.Kept entry state)) (b.on refl) (fewer client (holds past)) refl (λ e. refl)
owed-adds c past (Event.Claim client request fetched (ClaimAnswer.Refused refusal)) b a s =
    owed-quiet past (Event.Claim client request fetched (ClaimAnswer.Refused refusal)) (b.on refl) (fewer client (holds past)) refl (λ e. refl)
owed-adds c past (Event.Resume client entry fetched ResumeAnswer.Begun stored) b a s =
    owed-taken past (Event.Resume client entry fetched ResumeAnswer.Begun stored) (record { client = client; entry = entry; blocks = blocks_fetched_if fetched }) (b.on refl) (fewer client (holds past)) refl (λ e. refl)
owed-adds c past (Event.Resume client entry fetched (ResumeAnswer.Refused refusal) stored) b a s =
    owed-quiet past (Event.Resume client entry fetched (ResumeAnswer.Refused refusal) stored) (b.on refl) (fewer client (holds past)) refl (λ e. refl)
owed-adds c past Event.Cut b a s =
    owed-quiet past Event.Cut a.on (le_refl (length (holds past))) refl (λ e. refl)
owed-adds c past (Event.Start client entry op) b a s = cc
owed-adds c past (Event.End client entry op outcome told seen) b a s = cc
owed-adds c past (Event.Finish client entry state stored) b a s = cc
owed-adds c past (Event.GiveBack client what) b a s = cc
owed-adds c past event b a s = owed-quiet past event (b.on refl) (le_refl (length (holds past))) refl (λ e. refl)

strokes-more : (past : List Event) (client entry : ℕ) (op : Op) (e : ℕ) → length (strokes e past) ≤ length (strokes e (Event.Start client entry op ∷ past))
strokes-more past client entry op e = by_test (entry == e) _ (λ t. rw t (omega arith)) (λ t. rw t (omega arith))

strokes-ended : (past : List Event) (client entry : ℕ) (op : Op) (outcome : Result (Unit {0}) BoardFault) (told : List Mark) (seen : Seen) (e : ℕ) → length (strokes e past) ≤ length (strokes e (Event.End client entry op outcome told seen ∷ past))
strokes-ended past client entry op outcome told seen e = by_test (entry == e) _ (λ t. rw t (omega arith)) (λ t. rw t (omega arith))

-- what is out falls by what is given back
back-less : (past : List Event) (event : Event) → off (event ∷ past) ≡ off past → owed_by false (event ∷ past) + 1 ≤ owed_by false past → owed_by true (event ∷ past) + 1 ≤ owed_by true past → owed (event ∷ past) + 1 ≤ owed past
back-less past event o h k =
    let new : owed (event ∷ past) ≡ owed_by (off past) (event ∷ past) = ap (λ b. owed_by b (event ∷ past)) o in
    by_test (off past) _
    (λ t. let p : owed_by (off past) (event ∷ past) ≡ owed_by true (event ∷ past) = ap (λ b. owed_by b (event ∷ past)) t in
    let q = owed-when_off past t in omega (arith, new, p, q, k))
    (λ t. let p : owed_by (off past) (event ∷ past) ≡ owed_by false (event ∷ past) = ap (λ b. owed_by b (event ∷ past)) t in
    let q = owed-when_on past t in omega (arith, new, p, q, h))

off-parts : (past : List Event) (event : Event) → length (holds (event ∷ past)) + sum_by (entry_off (event ∷ past)) (live (event ∷ past)) + 1 ≤ length (holds past) + sum_by (entry_off past) (live past) → owed_by true (event ∷ past) + 1 ≤ owed_by true past
off-parts past event h = omega (arith, h)

on-parts : (past : List Event) (event : Event) → 2 * length (holds (event ∷ past)) + sum_by (entry_on (event ∷ past)) (live (event ∷ past)) + 1 ≤ 2 * length (holds past) + sum_by (entry_on past) (live past) → owed_by false (event ∷ past) + 1 ≤ owed_by false past
on-parts past event h = omega (arith, h)

back-hold : (past : List Event) (event : Event) (client : ℕ) (h : Held) → hold past client ≡ Some h → off (event ∷ past) ≡ off past → holds (event ∷ past) ≡ filter (λ (h : Held). not (h.client == client)) (holds past) → live (event ∷ past) ≡ live past → ((e : ℕ) → strokes e (event ∷ past) ≡ strokes e past) → owed (event ∷ past) + 1 ≤ owed past
back-hold past event client h e o hs l s =
    let takes = filter-takes (λ (x : Held). x.client == client) (holds past) h e in
    let held : length (holds (event ∷ past)) ≡ length (filter (λ (h : Held). not (h.client == client)) (holds past)) = ap length hs in
    let sum : sum_by (entry_on (event ∷ past)) (live past) ≤ sum_by (entry_on past) (live past) =
    sum_by-le-sum_by (entry_on (event ∷ past)) (entry_on past) (live past) (λ x. let g = ap length (s x.entry) in omega (arith, g)) in
    let lives : sum_by (entry_on (event ∷ past)) (live (event ∷ past)) ≡ sum_by (entry_on (event ∷ past)) (live past) = ap (sum_by (entry_on (event ∷ past))) l in
    let lives' : sum_by (entry_off (event ∷ past)) (live (event ∷ past)) ≡ sum_by (entry_off (event ∷ past)) (live past) = ap (sum_by (entry_off (event ∷ past))) l in
    let sum' : sum_by (entry_off (event ∷ past)) (live past) ≤ sum_by (entry_off past) (live past) =
    sum_by-le-sum_by (entry_off (event ∷ past)) (entry_off past) (live past) (λ x. omega arith) in
    back-less past event o (on-parts past event (omega (arith, takes, held, sum, lives))) (off-parts past event (omega (arith, takes, held, sum', lives')))

-- an entry that is done
gone-sum : (past : List Event) (event : Event) (f g : LiveEntry → ℕ) (entry : ℕ) (l : LiveEntry) → live_entry past entry ≡ Some l → live (event ∷ past) ≡ filter (λ (x : LiveEntry). not (x.entry == entry)) (live past) → ((x : LiveEntry) → f x ≤ g x) → 1 ≤ g l → sum_by f (live (event ∷ past)) + 1 ≤ sum_by g (live past)
gone-sum past event f g entry l found lives less one =
    let takes = sum-takes g (λ (x : LiveEntry). x.entry == entry) (live past) l found in
    let left : List LiveEntry = filter (λ (x : LiveEntry). not (x.entry == entry)) (live past) in
    let sum : sum_by f (filter (λ (x : LiveEntry). not (x.entry == entry)) (live past)) ≤ sum_by g (filter (λ (x : LiveEntry). not (x.entry == entry)) (live past)) = sum_by-le-sum_by f g (filter (λ (x : LiveEntry). not (x.entry == entry)) (live past)) less in
    let e : sum_by f (live (event ∷ past)) ≡ sum_by f (filter (λ (x : LiveEntry). not (x.entry == entry)) (live past)) = ap (sum_by f) lives in
    omega (arith, takes, sum, e, one)

gone-on : (past : List Event) (event : Event) (entry : ℕ) (l : LiveEntry) → live_entry past entry ≡ Some l → length (holds (event ∷ past)) ≤ length (holds past) → live (event ∷ past) ≡ filter (λ (x : LiveEntry). not (x.entry == entry)) (live past) → ((e : ℕ) → strokes e (event ∷ past) ≡ strokes e past) → owed_by false (event ∷ past) + 1 ≤ owed_by false past
gone-on past event entry l found few lives s =
    owed-less past event 1 few
    (gone-sum past event (entry_on (event ∷ past)) (entry_on past) entry l found lives (λ x. let g = ap length (s x.entry) in omega (arith, g)) (omega arith))

gone-off : (past : List Event) (event : Event) (entry : ℕ) (l : LiveEntry) → live_entry past entry ≡ Some l → length (holds (event ∷ past)) ≤ length (holds past) → live (event ∷ past) ≡ filter (λ (x : LiveEntry). not (x.entry == entry)) (live past) → owed_by true (event ∷ past) + 1 ≤ owed_by true past
gone-off past event entry l found few lives =
    let sum = gone-sum past event (entry_off (event ∷ past)) (entry_off past) entry l found lives (λ x. omega arith) (omega arith) in
    off-parts past event (omega (arith, few, sum))

-- an event that takes from the room leaves one less to owe
pub owed-spends : (c : Campaign) (past : List Event) (event : Event) → FewStrokes (event ∷ past) → IsLegal c past → BootTakes past event → Allowed c past event → spends event ≡ true → owed (event ∷ past) + 1 ≤ owed past
owed-spends c past (Event.Start client entry op) g k b a s =
    let started = a.1 in
    on-step past (Event.Start client entry op) 1 (b.on refl)
    (owed-start past (Event.Start client entry op) entry a.0 g refl refl started.live (strokes-more past client entry op) (rw (eqb-self entry) (omega arith)))
owed-spends c past (Event.End client entry op outcome told seen) g k b a s =
    let l = open-entry_live c past entry (record { client = client; entry = entry; op = op }) k (b.on refl) a.open_is in
    on-step past (Event.End client entry op outcome told seen) 1 (b.on refl)
    (owed-start past (Event.End client entry op outcome told seen) entry l.0 g refl refl l.1 (strokes-ended past client entry op outcome told seen) (rw (eqb-self entry) (omega arith)))
owed-spends c past (Event.Finish client entry state stored) g k b a s =
    let finished = a.2 in
    on-step past (Event.Finish client entry state stored) 1 (b.on refl)
    (gone-on past (Event.Finish client entry state stored) entry a.0 finished.live (le_refl (length (holds past))) refl (λ e. refl))
owed-spends c past (Event.GiveBack client (Back.Tag tag)) g k b a s =
    back-hold past (Event.GiveBack client (Back.Tag tag)) client a.0 a.1 refl refl refl (λ e. refl)
owed-spends c past (Event.GiveBack client (Back.Pending entry)) g k b a s =
    back-hold past (Event.GiveBack client (Back.Pending entry)) client a.0 a.1 refl refl refl (λ e. refl)
owed-spends c past (Event.GiveBack client (Back.Entry entry)) g k b a s =
    back-less past (Event.GiveBack client (Back.Entry entry)) refl
    (gone-on past (Event.GiveBack client (Back.Entry entry)) entry a.0 a.1 (fewer client (holds past)) refl (λ e. refl))
    (gone-off past (Event.GiveBack client (Back.Entry entry)) entry a.0 a.1 (fewer client (holds past)) refl)
owed-spends c past _ g k b a s = cc

pub owed-cut_live : (past : List Event) (entry : ℕ) (l : LiveEntry) → off past ≡ false → live_entry past entry ≡ Some l → owed (Event.Cut ∷ past) + 1 ≤ owed past
owed-cut_live past entry l o e = let less = off-less_live past entry l e in let q = owed-when_on past o in omega (arith, less, q)

-- Both, over a legal log.
pub adds-legal : (c : Campaign) (past : List Event) (event : Event) → IsLegal c (event ∷ past) → spends event ≡ false → owed (event ∷ past) ≤ owed past + adds event
adds-legal c past event l s = owed-adds c past event l.1 l.2 s

pub spends-legal : (c : Campaign) (past : List Event) (event : Event) → IsHistory c.basis.opening → IsLegal c (event ∷ past) → spends event ≡ true → owed (event ∷ past) + 1 ≤ owed past
spends-legal c past event v l s = owed-spends c past event (few-strokes c (event ∷ past) v l) l.0 l.1 l.2 s
