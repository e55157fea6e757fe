-- A scan of the log finds what the log says is live and held.
use Rattle.std.proofs.Common.{◌≡◌, ℕ, ◌+◌, ◌==◌, Bool, true, false, not, ◌||◌, List, [], ◌∷◌, ◌++◌, ◌<◌, length, take, get_or, reverse, refl, ap, sym, ◌∙◌, arith, append_assoc}
use Rattle.std.proofs.lemmas.Bool.{eqb-true}
use Rattle.std.proofs.lemmas.List.{append-nil, reverse-append, take_more}
use Rattle.std.proofs.lemmas.List.Sums.{sum_by-cons}
use Rattle.std.specs.Prelude.{filter, sum_by, if◌then◌else◌}
use Rattle.std.specs.List.{list_any}
use Rattle.update_log.proofs.Lists.{by_test}
use Rattle.update_log.proofs.Pasts.{past-push}
use Rattle.update_log.specs.declared.answer.AskAnswer.{AskAnswer}
use Rattle.update_log.specs.declared.answer.ClaimAnswer.{ClaimAnswer}
use Rattle.update_log.specs.declared.answer.ResumeAnswer.{ResumeAnswer}
use Rattle.update_log.specs.declared.event.Back.{Back}
use Rattle.update_log.specs.declared.event.Event.{Event}
use Rattle.update_log.specs.declared.live.Held.{Held}
use Rattle.update_log.specs.declared.live.LiveEntry.{LiveEntry}
use Rattle.update_log.specs.Holding.{blocks_fetched, blocks_fetched_if, holds, holds_after, is_live, live, live_after, without_entry}
use Rattle.update_log.specs.Pasts.{past_of}
use Rattle.log_stories.specs.Plain.{ends_hold, ends_live, held_in, held_since, lasts, live_in, live_said, live_since}

-- ---- is an entry live

any-push : (entry : ℕ) (xs : List LiveEntry) (x : LiveEntry) → list_any (λ l. l.entry == entry) (xs ++ x ∷ []) ≡ (list_any (λ l. l.entry == entry) xs || (x.entry == entry))
any-push entry [] x = by_test (x.entry == entry) _ (λ t. rw t refl) (λ t. rw t refl)
any-push entry (y ∷ ys) x = by_test (y.entry == entry) _ (λ t. rw t refl) (λ t. rw t (any-push entry ys x))

any-without : (ended entry : ℕ) (xs : List LiveEntry) → list_any (λ l. l.entry == entry) (without_entry ended xs) ≡ (if ended == entry then false else list_any (λ l. l.entry == entry) xs)
any-without ended entry [] = by_test (ended == entry) _ (λ t. rw t refl) (λ t. rw t refl)
any-without ended entry (y ∷ ys) =
    let rest = any-without ended entry ys in
    by_test (y.entry == ended) _
    (λ t. let same : (y.entry == entry) ≡ (ended == entry) = ap (λ n. n == entry) (eqb-true y.entry ended t) in
    by_test (ended == entry) _ (λ u. rw (t, u) (rest ∙ rw u refl)) (λ u. let no : (y.entry == entry) ≡ false = same ∙ u in rw (t, u, no) (rest ∙ rw u refl)))
    (λ t. by_test (y.entry == entry) _
    (λ u. let no : (ended == entry) ≡ false = by_test (ended == entry) _ (λ v. let bad : (y.entry == ended) ≡ true = ap (λ n. y.entry == n) (eqb-true ended entry v) ∙ u in cc) (λ v. v) in rw (t, u, no) refl)
    (λ u. rw (t, u) rest))

pub live-said : (entry : ℕ) (event : Event) (before : List LiveEntry) → is_live (live_after event before) entry ≡ live_said entry event (is_live before entry)
live-said entry (Event.Claim a b d (ClaimAnswer.Entry taken)) before = any-push entry before (record { client = a; entry = taken; blocks = blocks_fetched d })
live-said entry (Event.Resume a taken d ResumeAnswer.Begun f) before = any-push entry before (record { client = a; entry = taken; blocks = blocks_fetched_if d })
live-said entry (Event.Finish a ended d e) before = any-without ended entry before
live-said entry (Event.GiveBack a (Back.Entry ended)) before = any-without ended entry before
live-said entry _ before = refl

-- ---- sums over what is kept

-- what passes twice is what passes both
sums-twice : {X : Type 0} (f : X → ℕ) (p a : X → Bool) (xs : List X) → sum_by f (filter (λ x. not (a x)) (filter (λ x. not (p x)) xs)) ≡ sum_by f (filter (λ x. not (p x || a x)) xs)
sums-twice f p a [] = refl
sums-twice f p a (x ∷ xs) =
    let rest = sums-twice f p a xs in
    by_test (p x) _
    (λ t. rw t rest)
    (λ t. by_test (a x) _
    (λ u. rw (t, u) rest)
    (λ u. rw (t, u) (sum_by-cons f x (filter (λ x. not (a x)) (filter (λ x. not (p x)) xs)) ∙ ap (λ n. f x + n) rest ∙ sym (sum_by-cons f x (filter (λ x. not (p x || a x)) xs)))))

-- what is put behind counts where it passes
sums-push : {X : Type 0} (f : X → ℕ) (q : X → Bool) (xs : List X) (x : X) → sum_by f (filter q (xs ++ x ∷ [])) ≡ sum_by f (filter q xs) + (if q x then f x else 0)
sums-push f q [] x =
    by_test (q x) _
    (λ t. rw t refl)
    (λ t. rw t refl)
sums-push f q (y ∷ ys) x =
    let rest = sums-push f q ys x in
    by_test (q y) _
    (λ t. rw t (let a = sum_by-cons f y (filter q (ys ++ x ∷ [])) in let b = sum_by-cons f y (filter q ys) in omega (arith, a, b, rest)))
    (λ t. rw t rest)

none-left : {X : Type 0} (f : X → ℕ) (xs : List X) → sum_by f (filter (λ x. false) xs) ≡ 0
none-left f [] = refl
none-left f (x ∷ xs) = none-left f xs

all-left : {X : Type 0} (f : X → ℕ) (xs : List X) → sum_by f (filter (λ x. true) xs) ≡ sum_by f xs
all-left f [] = refl
all-left f (x ∷ xs) = sum_by-cons f x (filter (λ x. true) xs) ∙ ap (λ n. f x + n) (all-left f xs) ∙ sym (sum_by-cons f x xs)

-- ---- holds

abbrev held_blocks : Held → ℕ
held_blocks h = h.blocks

abbrev kept_holds : List Event → List Held → ℕ
kept_holds later xs = sum_by held_blocks (filter (λ h. lasts ends_hold later h.client) xs)

run_holds : List Event → List Held → List Held
run_holds [] xs = xs
run_holds (event ∷ later) xs = run_holds later (holds_after event xs)

-- a client's hold ends
left-holds : (client : ℕ) (later : List Event) (xs : List Held) → sum_by held_blocks (filter (λ h. lasts ends_hold later h.client) (filter (λ h. not (h.client == client)) xs))
    ≡ sum_by held_blocks (filter (λ h. not ((h.client == client) || list_any (λ event. ends_hold event h.client) later)) xs)
left-holds client later xs = sums-twice held_blocks (λ h. h.client == client) (λ h. list_any (λ event. ends_hold event h.client) later) xs

step-holds : (event : Event) (later : List Event) (xs : List Held) → kept_holds later (holds_after event xs) ≡ kept_holds (event ∷ later) xs + held_since event later
unfolding ends_hold
step-holds (Event.Boot a b d e f) later xs = let none = none-left held_blocks xs in omega (arith, none)
step-holds (Event.Ask client b d (AskAnswer.Hold blocks release)) later xs =
    sums-push held_blocks (λ h. lasts ends_hold later h.client) (filter (λ h. not (h.client == client)) xs) (record { client = client; request = b; pending = d; blocks = blocks; release = release })
    ∙ ap (λ n. n + held_since (Event.Ask client b d (AskAnswer.Hold blocks release)) later) (left-holds client later xs)
step-holds (Event.Claim client b d e) later xs = let same = left-holds client later xs in omega (arith, same)
step-holds (Event.Resume client b d e f) later xs = let same = left-holds client later xs in omega (arith, same)
step-holds (Event.GiveBack client b) later xs = let same = left-holds client later xs in omega (arith, same)
step-holds _ later xs = omega arith

sum-holds : (log : List Event) (xs : List Held) → sum_by held_blocks (run_holds log xs) ≡ kept_holds log xs + held_in log
unfolding run_holds
sum-holds [] xs = let all = all-left held_blocks xs in omega (arith, all)
sum-holds (event ∷ later) xs =
    let rest = sum-holds later (holds_after event xs) in
    let now = step-holds event later xs in
    omega (arith, rest, now)

holds-run : (log past : List Event) → holds (reverse log ++ past) ≡ run_holds log (holds past)
unfolding run_holds
holds-run [] past = refl
holds-run (event ∷ later) past =
    ap holds (ap (λ (l : List Event). l ++ past) (reverse-append (event ∷ []) later) ∙ append_assoc (reverse later) (event ∷ []) past)
    ∙ holds-run later (event ∷ past)

pub held-in : (log : List Event) → held_in log ≡ sum_by (λ (h : Held). h.blocks) (holds (past_of log))
held-in log =
    let sum = sum-holds log [] in
    let same : sum_by held_blocks (holds (past_of log)) ≡ sum_by held_blocks (run_holds log []) = ap (sum_by held_blocks) (ap holds (sym (append-nil (reverse log))) ∙ holds-run log []) in
    omega (arith, sum, same)

-- ---- live entries

abbrev live_blocks : LiveEntry → ℕ
live_blocks l = l.blocks

abbrev kept_live : List Event → List LiveEntry → ℕ
kept_live later xs = sum_by live_blocks (filter (λ l. lasts ends_live later l.entry) xs)

run_live : List Event → List LiveEntry → List LiveEntry
run_live [] xs = xs
run_live (event ∷ later) xs = run_live later (live_after event xs)

left-live : (entry : ℕ) (later : List Event) (xs : List LiveEntry) → sum_by live_blocks (filter (λ l. lasts ends_live later l.entry) (filter (λ l. not (l.entry == entry)) xs))
    ≡ sum_by live_blocks (filter (λ l. not ((l.entry == entry) || list_any (λ event. ends_live event l.entry) later)) xs)
left-live entry later xs = sums-twice live_blocks (λ l. l.entry == entry) (λ l. list_any (λ event. ends_live event l.entry) later) xs

step-live : (event : Event) (later : List Event) (xs : List LiveEntry) → kept_live later (live_after event xs) ≡ kept_live (event ∷ later) xs + live_since event later
unfolding ends_live
step-live (Event.Boot a b d e f) later xs = let none = none-left live_blocks xs in omega (arith, none)
step-live (Event.Claim client b d (ClaimAnswer.Entry entry)) later xs =
    sums-push live_blocks (λ l. lasts ends_live later l.entry) xs (record { client = client; entry = entry; blocks = blocks_fetched d })
step-live (Event.Resume client entry d ResumeAnswer.Begun f) later xs =
    sums-push live_blocks (λ l. lasts ends_live later l.entry) xs (record { client = client; entry = entry; blocks = blocks_fetched_if d })
step-live (Event.Finish a entry d e) later xs = let same = left-live entry later xs in omega (arith, same)
step-live (Event.GiveBack client (Back.Entry entry)) later xs = let same = left-live entry later xs in omega (arith, same)
step-live _ later xs = omega arith

sum-live : (log : List Event) (xs : List LiveEntry) → sum_by live_blocks (run_live log xs) ≡ kept_live log xs + live_in log
unfolding run_live
sum-live [] xs = let all = all-left live_blocks xs in omega (arith, all)
sum-live (event ∷ later) xs =
    let rest = sum-live later (live_after event xs) in
    let now = step-live event later xs in
    omega (arith, rest, now)

live-run : (log past : List Event) → live (reverse log ++ past) ≡ run_live log (live past)
unfolding run_live
live-run [] past = refl
live-run (event ∷ later) past =
    ap live (ap (λ (l : List Event). l ++ past) (reverse-append (event ∷ []) later) ∙ append_assoc (reverse later) (event ∷ []) past)
    ∙ live-run later (event ∷ past)

pub live-in : (log : List Event) → live_in log ≡ sum_by (λ (l : LiveEntry). l.blocks) (live (past_of log))
live-in log =
    let sum = sum-live log [] in
    let same : sum_by live_blocks (live (past_of log)) ≡ sum_by live_blocks (run_live log []) = ap (sum_by live_blocks) (ap live (sym (append-nil (reverse log))) ∙ live-run log []) in
    omega (arith, sum, same)

-- ---- the loop that tells whether an entry is live

pub live-more : (log : List Event) (i entry : ℕ) (event : Event) (before now : Bool) → i < length log → event ≡ get_or log i event → before ≡ is_live (live (past_of (take i log))) entry
    → now ≡ live_said entry event before → now ≡ is_live (live (past_of (take (i + 1) log))) entry
live-more log i entry event before now h e b n =
    let more : take (i + 1) log ≡ take i log ++ event ∷ [] = take_more log i event h ∙ ap (λ (x : Event). take i log ++ x ∷ []) (sym e) in
    n ∙ ap (live_said entry event) b ∙ sym (live-said entry event (live (past_of (take i log))))
    ∙ ap (λ (l : List Event). is_live (live l) entry) (sym (ap past_of more ∙ past-push (take i log) event))
