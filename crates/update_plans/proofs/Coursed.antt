-- How a course goes: it takes each step at most once, in their order, and the reload always.
use Rattle.std.proofs.Common.{◌≡◌, ℕ, suc, ◌≤◌, ◌&&◌, ◌||◌, ◌⊎◌, Bool, true, false, nat_lt, not, List, [], ◌∷◌, ◌++◌, inl, inr, refl, sym, ap, ◌∙◌, subst, arith}
use Rattle.std.specs.Prelude.{Ok, find, if◌then◌else◌}
use Rattle.std.specs.List.{AllByRecursion, list_any}
use Rattle.std.proofs.lemmas.Bool.{le-ltb, lt-ltb, or_parts}
use Rattle.fw_facts.specs.declared.flags.DeviceFlag.{DeviceFlag}
use Rattle.fw_facts.specs.Flags.{has_flag}
use Rattle.fw_facts.specs.declared.seen.Mode.{Mode}
use Rattle.fw_facts.specs.declared.seen.Seen.{Seen}
use Rattle.update_log.specs.declared.event.Op.{Op}
use Rattle.update_log.specs.declared.trace.Trace.{Trace}
use Rattle.update_log.specs.declared.trace.TraceStep.{TraceStep}
use Rattle.update_log.specs.Steps.{all_ops, ended_well, is_op, in_runtime, is_wanted, last_number, may_be_next, mode_of, next_step, op_number, was_taken, went_well}
use Rattle.update_log.proofs.Lists.{All-push, by_test, eqb-self}
use Rattle.update_log.proofs.StepsKept.{last-pushed}
use Rattle.update_plans.specs.declared.course.Course.{Course}
use Rattle.update_plans.specs.Courses.{course_of, course_step, course_with, shows_next}
use Rattle.update_plans.specs.Plans.{board_after, is_next, shown_after}

-- ---- how long it grows

-- ---- which step is the next

later : (op : Op) (p : Op → Bool) (rest : List Op) → list_any (λ o. is_op o op) rest ≡ false → is_next (find p rest) op ≡ false
later op p [] h = refl
later op p (o ∷ rest) h =
    let parts = or_parts (is_op o op) (list_any (λ o. is_op o op) rest) h in
    by_test (p o) _ (λ t. rw t parts.0) (λ f. rw f (later op p rest parts.1))

-- where none of a front passes and none behind is that step, it is the next where it passes
next-of : (op : Op) (p : Op → Bool) (front rest : List Op) → AllByRecursion (λ o. p o ≡ false) front → list_any (λ o. is_op o op) rest ≡ false
    → is_next (find p (front ++ op ∷ rest)) op ≡ p op
next-of op p [] rest none differ = by_test (p op) _ (λ t. rw t (eqb-self (op_number op))) (λ f. rw f (later op p rest differ))
next-of op p (o ∷ front) rest none differ = rw none.0 (next-of op p front rest none.1 differ)

-- none of these steps may be the next
abbrev pub NoneNext : List Op → Trace → Type 0
NoneNext front t = AllByRecursion (λ o. may_be_next t o ≡ false) front

-- a step that isn't above the last one may not be the next
not-above : (t : Trace) (n : ℕ) (front : List Op) → last_number t.steps ≡ n → AllByRecursion (λ o. op_number o ≤ n) front → NoneNext front t
not-above t n [] last low = tt
not-above t n (o ∷ front) last low =
    let above : nat_lt (last_number t.steps) (op_number o) ≡ false = le-ltb (last_number t.steps) (op_number o) (let l = low.0 in omega (arith, l, last)) in
    (ap (λ (b : Bool). b && is_wanted t o) above, not-above t n front last low.1)

-- ---- one step of a course

-- the courses behind a front of the steps: none of them may be the next, and the last one that was taken is among
-- them; the port shows its board where it did
pub record Went (front : List Op) (top : ℕ) (course : Course) : Type 0 where
  pub none : NoneNext front course.trace
  pub last : last_number course.trace.steps ≤ top

-- what is to be known of a step that comes behind a front
record IsBehind (front : List Op) (op : Op) (rest : List Op) : Type 0 where
  whole : front ++ op ∷ rest ≡ all_ops
  differ : list_any (λ o. is_op o op) rest ≡ false
  low : AllByRecursion (λ o. op_number o ≤ op_number op) (front ++ op ∷ [])

next-behind : (front rest : List Op) (op : Op) (t : Trace) → IsBehind front op rest → NoneNext front t → is_next (next_step t) op ≡ may_be_next t op
next-behind front rest op t b none =
    subst (λ (ops : List Op). is_next (find (may_be_next t) ops) op ≡ may_be_next t op) b.whole (next-of op (may_be_next t) front rest none b.differ)

went-on : (raw : ℕ) (front rest : List Op) (op : Op) (top : ℕ) (course : Course) → IsBehind front op rest → op_number op ≡ suc top → Went front top course
    → Went (front ++ op ∷ []) (suc top) (course_step raw course op)
went-on raw front rest op top course b number w =
    subst (λ (t : Bool). Went (front ++ op ∷ []) (suc top) (if t then course_with raw course op else course)) (sym next) (go (may_be_next course.trace op) refl)
  where
    next : is_next (next_step course.trace) op ≡ may_be_next course.trace op
    next = next-behind front rest op course.trace b w.none

    step : TraceStep
    step = record { op = op; outcome = Ok tt; seen = shows_next raw course op }

    last : last_number (course.trace.steps ++ step ∷ []) ≡ op_number op
    last = last-pushed course.trace.steps step

    go : (taken : Bool) → may_be_next course.trace op ≡ taken → Went (front ++ op ∷ []) (suc top) (if taken then course_with raw course op else course)
    go true e = record {
      none = not-above (course_with raw course op).trace (op_number op) (front ++ op ∷ []) last b.low;
      last = (let n = number in omega (arith, n, last));
    }
    go false e = record {
      none = All-push (λ o. may_be_next course.trace o ≡ false) front op w.none e;
      last = (let l = w.last in omega (arith, l));
    }

-- ---- the whole course

behind-prepare : IsBehind [] Op.Prepare (Op.Detach ∷ Op.Write ∷ Op.Attach ∷ Op.Reload ∷ Op.Cleanup ∷ [])
behind-prepare = record { whole = refl; differ = refl; low = (omega arith, tt) }

behind-detach : IsBehind (Op.Prepare ∷ []) Op.Detach (Op.Write ∷ Op.Attach ∷ Op.Reload ∷ Op.Cleanup ∷ [])
behind-detach = record { whole = refl; differ = refl; low = (omega arith, (omega arith, tt)) }

behind-write : IsBehind (Op.Prepare ∷ Op.Detach ∷ []) Op.Write (Op.Attach ∷ Op.Reload ∷ Op.Cleanup ∷ [])
behind-write = record { whole = refl; differ = refl; low = (omega arith, (omega arith, (omega arith, tt))) }

behind-attach : IsBehind (Op.Prepare ∷ Op.Detach ∷ Op.Write ∷ []) Op.Attach (Op.Reload ∷ Op.Cleanup ∷ [])
behind-attach = record { whole = refl; differ = refl; low = (omega arith, (omega arith, (omega arith, (omega arith, tt)))) }

behind-reload : IsBehind (Op.Prepare ∷ Op.Detach ∷ Op.Write ∷ Op.Attach ∷ []) Op.Reload (Op.Cleanup ∷ [])
behind-reload = record { whole = refl; differ = refl; low = (omega arith, (omega arith, (omega arith, (omega arith, (omega arith, tt))))) }

behind-cleanup : IsBehind (Op.Prepare ∷ Op.Detach ∷ Op.Write ∷ Op.Attach ∷ Op.Reload ∷ []) Op.Cleanup []
behind-cleanup = record { whole = refl; differ = refl; low = (omega arith, (omega arith, (omega arith, (omega arith, (omega arith, (omega arith, tt)))))) }

any-append : (p : TraceStep → Bool) (xs ys : List TraceStep) → list_any p xs ≡ true → list_any p (xs ++ ys) ≡ true
any-append p [] ys h = cc
any-append p (x ∷ xs) ys h = by_test (p x) _ (λ t. rw t refl) (λ f. rw f (any-append p xs ys (rw f at h)))

any-last : (p : TraceStep → Bool) (xs : List TraceStep) (x : TraceStep) → p x ≡ true → list_any p (xs ++ x ∷ []) ≡ true
any-last p [] x h = rw h refl
any-last p (y ∷ xs) x h = by_test (p y) _ (λ t. rw t refl) (λ f. rw f (any-last p xs x h))

-- the reload, once taken, has ended well, and stays so
reload-taken : (raw : ℕ) (course : Course) → is_next (next_step course.trace) Op.Reload ≡ true → ended_well Op.Reload (course_step raw course Op.Reload).trace.steps ≡ true
reload-taken raw course next =
    subst (λ (t : Bool). ended_well Op.Reload (if t then course_with raw course Op.Reload else course).trace.steps ≡ true) (sym next)
    (any-last (λ s. is_op s.op Op.Reload && went_well s) course.trace.steps (record { op = Op.Reload; outcome = Ok tt; seen = shows_next raw course Op.Reload }) refl)

reload-stays : (raw : ℕ) (course : Course) (op : Op) → ended_well Op.Reload course.trace.steps ≡ true → ended_well Op.Reload (course_step raw course op).trace.steps ≡ true
reload-stays raw course op h = go (is_next (next_step course.trace) op)
  where
    go : (t : Bool) → ended_well Op.Reload (if t then course_with raw course op else course).trace.steps ≡ true
    go true = any-append (λ s. is_op s.op Op.Reload && went_well s) course.trace.steps (record { op = op; outcome = Ok tt; seen = shows_next raw course op } ∷ []) h
    go false = h

-- behind the four before it the reload is the next
reload-comes : (course : Course) → Went (Op.Prepare ∷ Op.Detach ∷ Op.Write ∷ Op.Attach ∷ []) 4 course → is_next (next_step course.trace) Op.Reload ≡ true
reload-comes course w =
    let below : nat_lt (last_number course.trace.steps) 5 ≡ true = lt-ltb (last_number course.trace.steps) 5 (let l = w.last in omega (arith, l)) in
    next-behind (Op.Prepare ∷ Op.Detach ∷ Op.Write ∷ Op.Attach ∷ []) (Op.Cleanup ∷ []) Op.Reload course.trace behind-reload w.none ∙ ap (λ (t : Bool). t && true) below

module _ (raw : ℕ) (first : Course) (fresh : first.trace.steps ≡ []) where
  abbrev pub after-prepare : Course
  after-prepare = course_step raw first Op.Prepare

  abbrev pub after-detach : Course
  after-detach = course_step raw after-prepare Op.Detach

  abbrev pub after-write : Course
  after-write = course_step raw after-detach Op.Write

  abbrev pub after-attach : Course
  after-attach = course_step raw after-write Op.Attach

  abbrev pub after-reload : Course
  after-reload = course_step raw after-attach Op.Reload

  abbrev pub after-cleanup : Course
  after-cleanup = course_step raw after-reload Op.Cleanup

  went-first : Went [] 0 first
  went-first = record { none = tt; last = rw fresh (omega arith) }

  pub went-write : Went (Op.Prepare ∷ Op.Detach ∷ Op.Write ∷ []) 3 after-write
  went-write =
      went-on raw (Op.Prepare ∷ Op.Detach ∷ []) (Op.Attach ∷ Op.Reload ∷ Op.Cleanup ∷ []) Op.Write 2 after-detach behind-write refl
      (went-on raw (Op.Prepare ∷ []) (Op.Write ∷ Op.Attach ∷ Op.Reload ∷ Op.Cleanup ∷ []) Op.Detach 1 after-prepare behind-detach refl
      (went-on raw [] (Op.Detach ∷ Op.Write ∷ Op.Attach ∷ Op.Reload ∷ Op.Cleanup ∷ []) Op.Prepare 0 first behind-prepare refl went-first))

  went-attach : Went (Op.Prepare ∷ Op.Detach ∷ Op.Write ∷ Op.Attach ∷ []) 4 after-attach
  went-attach = went-on raw (Op.Prepare ∷ Op.Detach ∷ Op.Write ∷ []) (Op.Reload ∷ Op.Cleanup ∷ []) Op.Attach 3 after-write behind-attach refl went-write

  -- the reload is the next step when its turn comes
  pub reload_ended : ended_well Op.Reload after-cleanup.trace.steps ≡ true
  reload_ended = reload-stays raw after-reload Op.Cleanup (reload-taken raw after-attach (reload-comes after-attach went-attach))

  -- and there is no next step behind the cleanup
  went-cleanup : Went all_ops 6 after-cleanup
  went-cleanup =
      went-on raw (Op.Prepare ∷ Op.Detach ∷ Op.Write ∷ Op.Attach ∷ Op.Reload ∷ []) [] Op.Cleanup 5 after-reload behind-cleanup refl
      (went-on raw (Op.Prepare ∷ Op.Detach ∷ Op.Write ∷ Op.Attach ∷ []) (Op.Cleanup ∷ []) Op.Reload 4 after-attach behind-reload refl went-attach)

  pub none_left : AllByRecursion (λ o. may_be_next after-cleanup.trace o ≡ false) all_ops
  none_left = went-cleanup.none

-- ---- the modes of a course

-- The port shows runtime mode, or an attach is wanted when its turn comes.
abbrev pub Returns : Course → Type 0
Returns course = (in_runtime (mode_of course.seen) ≡ true) ⊎ ((was_taken Op.Detach course.trace.steps || not (in_runtime course.trace.mode)) ≡ true)

pub returns-first : (course : Course) → course.trace.mode ≡ mode_of course.seen → Returns course
returns-first course same = by_test (in_runtime (mode_of course.seen)) (Returns course) (λ t. inl t) (λ f. inr (or-right (was_taken Op.Detach course.trace.steps) _ (ap (λ (m : Mode). not (in_runtime m)) same ∙ ap not f)))
  where
    or-right : (a b : Bool) → b ≡ true → (a || b) ≡ true
    or-right true b h = refl
    or-right false b h = h

or-true : (a : Bool) → (a || true) ≡ true
or-true true = refl
or-true false = refl

-- a step that leaves the mode
keeps-mode : (raw : ℕ) (course : Course) (op : Op) → mode_of (shows_next raw course op) ≡ mode_of course.seen → Returns course → Returns (course_with raw course op)
keeps-mode raw course op same (inl t) = inl (ap in_runtime same ∙ t)
keeps-mode raw course op same (inr t) = inr (more (was_taken Op.Detach course.trace.steps) (not (in_runtime course.trace.mode)) refl t)
  where
    step : TraceStep
    step = record { op = op; outcome = Ok tt; seen = shows_next raw course op }

    more : (a b : Bool) → was_taken Op.Detach course.trace.steps ≡ a → (a || b) ≡ true → (was_taken Op.Detach (course.trace.steps ++ step ∷ []) || b) ≡ true
    more true b e t = ap (λ (taken : Bool). taken || b) (any-append (λ s. is_op s.op Op.Detach) course.trace.steps (step ∷ []) e)
    more false true e t = or-true (was_taken Op.Detach (course.trace.steps ++ step ∷ []))
    more false false e t = cc

-- What a step shows of a board at home, in its mode.
mode-after : (raw : ℕ) (course : Course) (op : Op) (old : ℕ) (mode : Mode) → course.seen ≡ Seen.Home old mode
    → mode_of (shows_next raw course op) ≡ mode_of (board_after op (has_flag DeviceFlag.NeedsReboot course.trace.flags) raw old mode)
mode-after raw course op old mode e = ap (λ (x : Seen). mode_of (shown_after op (has_flag DeviceFlag.NeedsReboot course.trace.flags) raw x)) e

pub returns-prepare : (raw : ℕ) (course : Course) (old : ℕ) (mode : Mode) → course.seen ≡ Seen.Home old mode → Returns course → Returns (course_step raw course Op.Prepare)
returns-prepare raw course old mode e r = go (is_next (next_step course.trace) Op.Prepare)
  where
    go : (t : Bool) → Returns (if t then course_with raw course Op.Prepare else course)
    go true = keeps-mode raw course Op.Prepare (mode-after raw course Op.Prepare old mode e ∙ sym (ap mode_of e)) r
    go false = r

pub returns-detach : (raw : ℕ) (course : Course) → Returns course → Returns (course_step raw course Op.Detach)
returns-detach raw course r = go (is_next (next_step course.trace) Op.Detach)
  where
    taken : was_taken Op.Detach (course_with raw course Op.Detach).trace.steps ≡ true
    taken = any-last (λ s. is_op s.op Op.Detach) course.trace.steps (record { op = Op.Detach; outcome = Ok tt; seen = shows_next raw course Op.Detach }) refl

    go : (t : Bool) → Returns (if t then course_with raw course Op.Detach else course)
    go true = inr (ap (λ (b : Bool). b || not (in_runtime course.trace.mode)) taken)
    go false = r

pub returns-write : (raw : ℕ) (course : Course) (old : ℕ) (mode : Mode) → course.seen ≡ Seen.Home old mode → Returns course → Returns (course_step raw course Op.Write)
returns-write raw course old mode e r = go (is_next (next_step course.trace) Op.Write)
  where
    go : (t : Bool) → Returns (if t then course_with raw course Op.Write else course)
    go true = keeps-mode raw course Op.Write (mode-after raw course Op.Write old mode e ∙ sym (ap mode_of e)) r
    go false = r

-- behind the attach the port is in runtime mode
pub attached : (raw : ℕ) (course : Course) (old : ℕ) (mode : Mode) → course.seen ≡ Seen.Home old mode → Went (Op.Prepare ∷ Op.Detach ∷ Op.Write ∷ []) 3 course → Returns course
    → in_runtime (mode_of (course_step raw course Op.Attach).seen) ≡ true
attached raw course old mode e w r = go (is_next (next_step course.trace) Op.Attach) refl
  where
    below : nat_lt (last_number course.trace.steps) 4 ≡ true
    below = lt-ltb (last_number course.trace.steps) 4 (let l = w.last in omega (arith, l))

    runtime : Returns course → may_be_next course.trace Op.Attach ≡ false → in_runtime (mode_of course.seen) ≡ true
    runtime (inl t) f = t
    runtime (inr t) f =
        let wanted : may_be_next course.trace Op.Attach ≡ true = ap (λ (b : Bool). b && (was_taken Op.Detach course.trace.steps || not (in_runtime course.trace.mode))) below ∙ t in
        let bad : true ≡ false = sym wanted ∙ f in
        cc

    go : (t : Bool) → is_next (next_step course.trace) Op.Attach ≡ t → in_runtime (mode_of (if t then course_with raw course Op.Attach else course).seen) ≡ true
    go true n = ap in_runtime (mode-after raw course Op.Attach old mode e)
    go false n = runtime r (sym (next-behind (Op.Prepare ∷ Op.Detach ∷ Op.Write ∷ []) (Op.Reload ∷ Op.Cleanup ∷ []) Op.Attach course.trace behind-attach w.none) ∙ n)

pub later-runtime : (raw : ℕ) (course : Course) (op : Op) (old : ℕ) (mode : Mode) → course.seen ≡ Seen.Home old mode → mode_of (board_after op (has_flag DeviceFlag.NeedsReboot course.trace.flags) raw old mode) ≡ Mode.Runtime
    → in_runtime (mode_of course.seen) ≡ true → in_runtime (mode_of (course_step raw course op).seen) ≡ true
later-runtime raw course op old mode e shows r = go (is_next (next_step course.trace) op)
  where
    go : (t : Bool) → in_runtime (mode_of (if t then course_with raw course op else course).seen) ≡ true
    go true = ap in_runtime (mode-after raw course op old mode e ∙ shows)
    go false = r

pub is-runtime : (mode : Mode) → in_runtime mode ≡ true → mode ≡ Mode.Runtime
is-runtime Mode.Runtime h = refl
is-runtime Mode.Bootloader h = cc

-- ---- a device that waits for a boot

-- The device needs a boot, and its port shows that raw number.
pub record Keeps (course : Course) (raw : ℕ) : Type 0 where
  pub waits : has_flag DeviceFlag.NeedsReboot course.trace.flags ≡ true
  pub mode : Mode
  pub shows : course.seen ≡ Seen.Home raw mode

-- no step changes that
keeps-raw : (new : ℕ) (course : Course) (op : Op) (raw : ℕ) → Keeps course raw → Keeps (course_step new course op) raw
keeps-raw new course op raw k = go (is_next (next_step course.trace) op)
  where
    board : (op : Op) → (mode : Mode) × (board_after op true new raw k.mode ≡ Seen.Home raw mode)
    board Op.Prepare = (k.mode, refl)
    board Op.Detach = (Mode.Bootloader, refl)
    board Op.Write = (k.mode, refl)
    board Op.Attach = (Mode.Runtime, refl)
    board Op.Reload = (Mode.Runtime, refl)
    board Op.Cleanup = (Mode.Runtime, refl)

    taken : Keeps (course_with new course op) raw
    taken =
        let at = board op in
        record {
          waits = k.waits;
          mode = at.0;
          shows =
              ap (shown_after op (has_flag DeviceFlag.NeedsReboot course.trace.flags) new) k.shows
              ∙ ap (λ (waits : Bool). board_after op waits new raw k.mode) k.waits ∙ at.1;
        }

    go : (t : Bool) → Keeps (if t then course_with new course op else course) raw
    go true = taken
    go false = k

pub keeps-whole : (new : ℕ) (first : Course) (raw : ℕ) → Keeps first raw
    → Keeps (course_step new (course_step new (course_step new (course_step new (course_step new (course_step new first Op.Prepare) Op.Detach) Op.Write) Op.Attach) Op.Reload) Op.Cleanup) raw
keeps-whole new first raw k =
    let k1 = keeps-raw new first Op.Prepare raw k in
    let k2 = keeps-raw new _ Op.Detach raw k1 in
    let k3 = keeps-raw new _ Op.Write raw k2 in
    let k4 = keeps-raw new _ Op.Attach raw k3 in
    let k5 = keeps-raw new _ Op.Reload raw k4 in
    keeps-raw new _ Op.Cleanup raw k5

-- The whole course is these six.
pub course_is : (raw : ℕ) (first : Trace) (seen : Seen)
    → course_of first seen raw
    ≡ course_step raw (course_step raw (course_step raw (course_step raw (course_step raw (course_step raw (record { trace = first; seen = seen }) Op.Prepare) Op.Detach) Op.Write) Op.Attach) Op.Reload) Op.Cleanup
unfolding course_of
course_is raw first seen = refl
