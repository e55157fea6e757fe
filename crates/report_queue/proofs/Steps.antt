-- From what the parts of a call did to what the call leaves.
use Rattle.std.proofs.Common.{◌≡◌, ℕ, ◌+◌, ◌-◌, ◌<◌, arith, true, List, [], ◌∷◌, ◌++◌, length, take, drop, get_or, Bor, refl, sym, ap, subst, ◌∙◌, ◌⊎◌, inl, inr, append_assoc}
use Rattle.std.specs.Prelude.{All, AllPairs, Contains, Option, Some, None, option_map, Result, Ok, Err, IfSome}
use Rattle.std.proofs.lemmas.List.{append-nil, get_or-map, length-append, length-map, map-append, take-append-drop, take_all, take_at, take_more}
use Rattle.std.proofs.lemmas.List.Concat.{flat_map-append}
use Rattle.std.proofs.lemmas.List.Elements.{All-take}
use Rattle.history_keeper.proofs.Prefixes.{front-pairs}
use Rattle.outer_traits.specs.Sinks.{Took, TookFront}
use Rattle.outer_traits.proofs.Fronts.{took_more, took_none}
use Rattle.history_keeper.specs.declared.row.Row.{Row}
use Rattle.history_keeper.specs.declared.refusal.KeeperRefusal.{KeeperRefusal}
use Rattle.history_keeper.specs.declared.refusal.KeeperRefusal.TheVariants as refusals
use Rattle.history_keeper.specs.Histories.{IsHistory}
use Rattle.report_queue.specs.declared.stop.SendStop.{SendStop}
use Rattle.report_queue.specs.declared.stop.SendStop.TheVariants.{SinkFault, KeeperFault, NoMemory}
use Rattle.report_queue.specs.Answers.{Answers, Sends}
use Rattle.report_queue.specs.Calls.{Call, IsUnwritten, Marks}
use Rattle.report_queue.specs.Lines.{line}
use Rattle.report_queue.specs.Marking.{with_doubt, with_entry, MarksEither, MarksStay, OverTold}
use Rattle.report_queue.specs.Sending.{due, entries_of, is_judged, lines, IsFront, Sent, UpToLast}
use Rattle.report_queue.specs.Stops.{Told, HasSent, StopsIn, stop_of}
use Rattle.report_queue.proofs.Marked.{more-marks, no-marks, now_of}
use Rattle.report_queue.proofs.Told.{over_then, over_weaker}
use Rattle.report_queue.proofs.Rows.{due-judged, due-of_rows, due-rise, due-unmarked, not_before}

-- ---- texts up to the last line

pub lines-append : (one two : List Row) → lines (one ++ two) ≡ lines one ++ lines two
lines-append one two = flat_map-append line one two

lines_whole : (rows : List Row) → UpToLast rows (lines rows)
lines_whole rows = record {
  all_but_last = record {
    rest = lines (drop (length rows - 1) rows);
    parts = ap lines (sym (take-append-drop (length rows - 1) rows)) ∙ lines-append (take (length rows - 1) rows) (drop (length rows - 1) rows);
  };
  within = record { rest = []; parts = sym (append-nil (lines rows)) };
}

lines_broken : (rows : List Row) (row : Row) (front rest : List ℕ) → line row ≡ front ++ rest → UpToLast (rows ++ row ∷ []) (lines rows ++ front)
lines_broken rows row front rest e = record {
  all_but_last = record {
    rest = front;
    parts = ap (λ (rs : List Row). lines rs ++ front) (sym (take_at rows (row ∷ []) (length (rows ++ row ∷ []) - 1) (omega (arith, length-append rows (row ∷ [])))));
  };
  within = record {
    rest = rest;
    parts = lines-append rows (row ∷ []) ∙ ap (λ (text : List ℕ). lines rows ++ text) (append-nil (line row) ∙ e) ∙ sym (append_assoc (lines rows) front rest);
  };
}

-- ---- what was sent of the rows that are due

fronted : (rows : List Row) (n : ℕ) → IsFront (take n rows) rows
fronted rows n = record { rest = drop n rows; parts = sym (take-append-drop n rows) }

sent_of : (rows : List Row) (marks : List ℕ) (max n : ℕ) (text : List ℕ) → IsHistory rows → UpToLast (take n (take max (due marks rows))) text → Sent rows marks (take n (take max (due marks rows))) text
sent_of rows marks max n text h up = record {
  of_rows = All-take (Contains rows) n (take max (due marks rows)) (due-of_rows rows marks max);
  judged = All-take (λ (row : Row). is_judged row.state ≡ true) n (take max (due marks rows)) (due-judged rows marks max);
  unmarked = All-take (λ (row : Row). Contains marks row.entry → ⊥) n (take max (due marks rows)) (due-unmarked rows marks max);
  rising = front-pairs (λ (a b : Row). a.entry < b.entry) (take max (due marks rows)) n (due-rise rows marks max h);
  lines_are = up;
}

-- ---- what the keeper told when it was opened

-- These marks were loaded after a reopening: the marks before it are these, perhaps without the one that was in doubt.
pub record Opened (loaded : List ℕ) (old middle : Told) : Type 0 where
  pub before : Marks
  pub is_before : IfSome old.marks (λ entries. before ≡ record { entries = entries; doubt = old.doubt })
  pub found : (loaded ≡ before.entries) ⊎ (loaded ≡ with_doubt before.doubt before.entries)
  pub told : middle.marks ≡ option_map (λ (_ : List ℕ). loaded) old.marks

private_opened : (loaded : List ℕ) (o : Option (List ℕ)) (doubt : Option ℕ) (n : Option (List ℕ)) → (n ≡ o) ⊎ (n ≡ option_map (with_doubt doubt) o) → IfSome n (λ all. loaded ≡ all)
    → (before : Marks) × IfSome o (λ entries. before ≡ record { entries = entries; doubt = doubt }) × ((loaded ≡ before.entries) ⊎ (loaded ≡ with_doubt before.doubt before.entries)) × (n ≡ option_map (λ (_ : List ℕ). loaded) o)
private_opened loaded None doubt n (inl e) h = (record { entries = loaded; doubt = None }, tt, inl refl, e)
private_opened loaded None doubt n (inr e) h = (record { entries = loaded; doubt = None }, tt, inl refl, e)
private_opened loaded (Some marks) doubt n (inl e) h =
    let same : loaded ≡ marks = rw e at h in
    (record { entries = marks; doubt = doubt }, refl, inl same, e ∙ ap Some (sym same))
private_opened loaded (Some marks) doubt n (inr e) h =
    let same : loaded ≡ with_doubt doubt marks = rw e at h in
    (record { entries = marks; doubt = doubt }, refl, inr same, e ∙ ap Some (sym same))

pub opened : (loaded : List ℕ) (old middle : Told) → (middle.marks ≡ old.marks) ⊎ (middle.marks ≡ option_map (with_doubt old.doubt) old.marks) → IfSome middle.marks (λ all. loaded ≡ all) → Opened loaded old middle
opened loaded old middle e h =
    let all = private_opened loaded old.marks old.doubt middle.marks e h in
    record { before = all.0; is_before = all.1; found = all.2; told = all.3 }

-- The same of what the keeper told, if it told anything.
abbrev OpenedWith : Option ℕ → Option ℕ → Option (List ℕ) → Option (List ℕ) → List ℕ → Option (List ℕ) → Option (List ℕ) → Type 0
OpenedWith doubt later t u loaded before after = Opened loaded (record { marks = before; doubt = doubt; taken = t }) (record { marks = after; doubt = later; taken = u })

-- It was reopened, and a call left the marks, which were loaded.
module _ (old middle new : List ℕ → Type 0) (doubt later : Option ℕ) (t u : Option (List ℕ)) (either : MarksEither doubt old middle) (stay : MarksStay middle new) where
  open_with : (loaded all before : List ℕ) → (all ≡ before) ⊎ (all ≡ with_doubt doubt before) → loaded ≡ all → OpenedWith doubt later t u loaded (Some before) (Some all)
  open_with loaded all before (inl e) h = opened loaded (record { marks = Some before; doubt = doubt; taken = t }) (record { marks = Some all; doubt = later; taken = u }) (inl (ap Some e)) h
  open_with loaded all before (inr e) h = opened loaded (record { marks = Some before; doubt = doubt; taken = t }) (record { marks = Some all; doubt = later; taken = u }) (inr (ap Some e)) h

  open_none : (loaded : List ℕ) → OpenedWith doubt later t u loaded None None
  open_none loaded = opened loaded (record { marks = None; doubt = doubt; taken = t }) (record { marks = None; doubt = later; taken = u }) (inl refl) tt

  pub opened_over : (loaded : List ℕ) → ((all : List ℕ) → new all → loaded ≡ all) → OverTold old new (OpenedWith doubt later t u loaded)
  opened_over loaded answer = go
    where
      go : (after : Option (List ℕ)) → IfSome after new → (before : Option (List ℕ)) × IfSome before old × OpenedWith doubt later t u loaded before after
      go None told = (None, tt, open_none loaded)
      go (Some all) told = let b = either all (stay all told) in (Some b.0, b.1, open_with loaded all b.0 b.2 (answer all told))

  -- Where nothing was loaded a list serves that is told.
  pub opened_some : OverTold old new (λ before after. (loaded : List ℕ) × OpenedWith doubt later t u loaded before after)
  opened_some = go
    where
      go : (after : Option (List ℕ)) → IfSome after new → (before : Option (List ℕ)) × IfSome before old × ((loaded : List ℕ) × OpenedWith doubt later t u loaded before after)
      go None told = (None, tt, ([], open_none []))
      go (Some all) told = let b = either all (stay all told) in (Some b.0, b.1, (all, open_with all all b.0 b.2 refl))

-- Marks that stay are there without the doubtful one.
pub stay_either : (old new : List ℕ → Type 0) (doubt : Option ℕ) → MarksStay old new → MarksEither doubt old new
stay_either old new doubt stay all told = (all, stay all told, inl refl)

-- ---- the call

abbrev call_of : List Row → ℕ → Marks → List ℕ → List Row → List ℕ → Option ℕ → Call
call_of rows max before loaded sent text doubt = record {
  rows = rows;
  max = max;
  before = before;
  found = loaded;
  after = record { entries = loaded ++ entries_of sent; doubt = doubt };
  sent = sent;
  text = text;
}

after_is : (loaded more : List ℕ) (o m n : Option (List ℕ)) → m ≡ option_map (λ (_ : List ℕ). loaded) o → n ≡ option_map (λ (marks : List ℕ). marks ++ more) m → n ≡ option_map (λ (_ : List ℕ). loaded ++ more) o
after_is loaded more None m n e h = h ∙ ap (option_map (λ (marks : List ℕ). marks ++ more)) e
after_is loaded more (Some marks) m n e h = h ∙ ap (option_map (λ (marks : List ℕ). marks ++ more)) e

sends : (rows : List Row) (max n : ℕ) (answer : Result ℕ SendStop) (old middle new : Told) (loaded text : List ℕ) → IsHistory rows → (o : Opened loaded old middle)
    → UpToLast (take n (take max (due loaded rows))) text
    → new.marks ≡ option_map (λ (marks : List ℕ). marks ++ entries_of (take n (take max (due loaded rows)))) middle.marks
    → Took text old.taken new.taken
    → IfSome new.doubt (IsUnwritten (call_of rows max o.before loaded (take n (take max (due loaded rows))) text new.doubt))
    → Answers (call_of rows max o.before loaded (take n (take max (due loaded rows))) text new.doubt) answer
    → Sends rows max answer old new
sends rows max n answer old middle new loaded text h o up marks took doubt answers = record {
  call = call_of rows max o.before loaded (take n (take max (due loaded rows))) text new.doubt;
  rows_are = refl;
  max_is = refl;
  before = o.is_before;
  after = after_is loaded (entries_of (take n (take max (due loaded rows)))) old.marks middle.marks new.marks o.told marks;
  doubt = refl;
  took = took;
  leaves = record {
    found = o.found;
    sent = sent_of rows loaded max n text h up;
    in_turn = fronted (take max (due loaded rows)) n;
    marked = refl;
    doubtful = doubt;
  };
  answers = answers;
}

-- ---- the ends of a call

unwritten_none : (call : Call) (doubt : Option ℕ) → call.sent ≡ [] → call.text ≡ [] → IfSome doubt (IsUnwritten call)
unwritten_none call None s t = tt
unwritten_none call (Some entry) s t = record {
  apart = λ there. (let none : Contains (entries_of []) entry = subst (λ (rs : List Row). Contains (entries_of rs) entry) s there in omega (arith, none.1));
  only = t ∙ sym (ap lines s);
}

-- It stopped before it sent a row.
pub ends_early : (rows : List Row) (max : ℕ) (stop : SendStop) (old new : Told) (loaded : List ℕ) → IsHistory rows → Opened loaded old new → new.taken ≡ old.taken → (stop ≡ SinkFault → ⊥) → Sends rows max (Err stop) old new
ends_early rows max stop old new loaded h o quiet other =
    sends rows max 0 (Err stop) old new new loaded [] h o (lines_whole [])
    (no-marks new.marks) (rw quiet (took_none old.taken))
    (unwritten_none (call_of rows max o.before loaded [] [] new.doubt) new.doubt refl refl)
    (by_stop stop other)
  where
    by_stop : (s : SendStop) → (s ≡ SinkFault → ⊥) → Answers (call_of rows max o.before loaded [] [] new.doubt) (Err s)
    by_stop SinkFault f = absurd (f refl)
    by_stop KeeperFault f = refl
    by_stop NoMemory f = refl

pub no_sink_fault : (refusal : KeeperRefusal) → stop_of refusal ≡ SinkFault → ⊥
no_sink_fault refusals.Fault h = cc
no_sink_fault refusals.NoMemory h = cc

-- It sent all.
pub ends_whole : (rows : List Row) (max count : ℕ) (old middle new : Told) (loaded : List ℕ) → IsHistory rows → Opened loaded old middle → middle.taken ≡ old.taken
    → HasSent (take max (due loaded rows)) middle new → count ≡ length (take max (due loaded rows)) → Sends rows max (Ok count) old new
ends_whole rows max count old middle new loaded h o quiet s c =
    let all : List Row = take max (due loaded rows) in
    let whole : take (length all) all ≡ all = take_all (length all) all (omega arith) in
    sends rows max (length all) (Ok count) old middle new loaded (lines all) h o
    (subst (λ (rs : List Row). UpToLast rs (lines all)) (sym whole) (lines_whole all))
    (s.marks ∙ ap (λ (rs : List Row). option_map (λ (marks : List ℕ). marks ++ entries_of rs) middle.marks) (sym whole))
    (subst (λ (t : Option (List ℕ)). Took (lines all) t new.taken) quiet s.taken)
    (rw s.doubt tt)
    (record { sent = whole; text = ap lines (sym whole); settled = s.doubt }, c ∙ ap length (sym whole))

-- It stopped at a row.
pub ends_at : (rows : List Row) (max : ℕ) (stop : SendStop) (old middle new : Told) (loaded : List ℕ) → IsHistory rows → Opened loaded old middle → middle.taken ≡ old.taken
    → StopsIn (take max (due loaded rows)) stop middle new → Sends rows max (Err stop) old new
ends_at rows max SinkFault old middle new loaded h o quiet s =
    let all : List Row = take max (due loaded rows) in
    let front : List Row = take s.at all in
    let cut : TookFront (line s.row) s.middle.taken new.taken = s.stops.2 in
    let parts : take (s.at + 1) all ≡ front ++ s.row ∷ [] = take_more all s.at s.row s.within ∙ ap (λ (r : Row). front ++ r ∷ []) (sym s.is_there) in
    sends rows max (s.at + 1) (Err SinkFault) old middle new loaded (lines front ++ cut.front) h o
    (subst (λ (rs : List Row). UpToLast rs (lines front ++ cut.front)) (sym parts) (lines_broken front s.row cut.front cut.rest cut.parts))
    (s.stops.0 ∙ ap (option_map (with_entry s.row.entry)) s.before.marks ∙ more-marks middle.marks (entries_of front) (s.row.entry ∷ [])
    ∙ ap (λ (es : List ℕ). option_map (λ (marks : List ℕ). marks ++ es) middle.marks) (sym (map-append (λ (r : Row). r.entry) front (s.row ∷ [])) ∙ ap entries_of (sym parts)))
    (subst (λ (t : Option (List ℕ)). Took (lines front ++ cut.front) t new.taken) quiet (took_more (lines front) cut.front middle.taken s.middle.taken new.taken s.before.taken cut.took))
    (rw s.stops.1 tt)
    s.stops.1
ends_at rows max KeeperFault old middle new loaded h o quiet s =
    let all : List Row = take max (due loaded rows) in
    let front : List Row = take s.at all in
    sends rows max s.at (Err KeeperFault) old middle new loaded (lines front) h o (lines_whole front)
    (s.stops.0 ∙ s.before.marks)
    (rw (s.stops.2, ← quiet) s.before.taken)
    (rw s.stops.1 (record { apart = not_before all s.at s.row s.within s.is_there (due-rise rows loaded max h); only = refl }))
    refl
ends_at rows max NoMemory old middle new loaded h o quiet s =
    let all : List Row = take max (due loaded rows) in
    let front : List Row = take s.at all in
    sends rows max s.at (Err NoMemory) old middle new loaded (lines front) h o (lines_whole front)
    (s.stops.0 ∙ s.before.marks)
    (rw (s.stops.2, ← quiet) s.before.taken)
    (rw s.stops.1 tt)
    refl

-- ---- the ends of a call, over what the keeper may tell

module _ (old middle new : List ℕ → Type 0) (doubt later : Option ℕ) (t : Option (List ℕ)) (either : MarksEither doubt old middle) (stay : MarksStay middle new)
    (rows : List Row) (max : ℕ) (result : Result ℕ SendStop) (stop : SendStop) (is : result ≡ Err stop) (history : IsHistory rows) where
  -- The keeper of marks refused before a row was sent.
  pub early_refused : (refusal : KeeperRefusal) → stop ≡ stop_of refusal
      → OverTold old new (λ before after. Sends rows max result (record { marks = before; doubt = doubt; taken = t }) (record { marks = after; doubt = later; taken = t }))
  early_refused refusal f =
      over_weaker old new (λ before after. Sends rows max result (record { marks = before; doubt = doubt; taken = t }) (record { marks = after; doubt = later; taken = t }))
      (λ before after. (loaded : List ℕ) × OpenedWith doubt later t t loaded before after)
      (opened_some old middle new doubt later t t either stay)
      (λ before after o. rw (is, f) (ends_early rows max (stop_of refusal) (record { marks = before; doubt = doubt; taken = t }) (record { marks = after; doubt = later; taken = t }) o.0 history o.1 refl (no_sink_fault refusal)))

  -- There was no memory before a row was sent.
  pub early_no_memory : (loaded : List ℕ) → ((all : List ℕ) → new all → loaded ≡ all) → stop ≡ NoMemory
      → OverTold old new (λ before after. Sends rows max result (record { marks = before; doubt = doubt; taken = t }) (record { marks = after; doubt = later; taken = t }))
  early_no_memory loaded answer f =
      over_weaker old new (λ before after. Sends rows max result (record { marks = before; doubt = doubt; taken = t }) (record { marks = after; doubt = later; taken = t }))
      (OpenedWith doubt later t t loaded)
      (opened_over old middle new doubt later t t either stay loaded answer)
      (λ before after o. rw (is, f) (ends_early rows max NoMemory (record { marks = before; doubt = doubt; taken = t }) (record { marks = after; doubt = later; taken = t }) loaded history o refl (λ bad. cc)))

-- ---- over references to the rows that are due

module _ (rows : List Row) (max : ℕ) (loaded slice : List ℕ) (refs items : List (Bor Row)) where
  pub due_refs : refs ≡ items → now_of items ≡ take max (due slice rows) → slice ≡ loaded → now_of refs ≡ take max (due loaded rows)
  due_refs r d s = ap now_of r ∙ d ∙ ap (λ (marks : List ℕ). take max (due marks rows)) s

  pub due_free : (all : List ℕ) → now_of refs ≡ take max (due loaded rows) → loaded ≡ all → All (λ (row : Bor Row). Contains all row.now.entry → ⊥) refs
  due_free all e same k d within there =
      let at : get_or (now_of refs) k d.now ≡ (get_or refs k d).now = get_or-map (λ (row : Bor Row). row.now) refs k d d.now within in
      let free : All (λ (row : Row). Contains all row.entry → ⊥) (now_of refs) =
      subst (λ (rs : List Row). All (λ (row : Row). Contains all row.entry → ⊥) rs) (sym e) (subst (λ (marks : List ℕ). All (λ (row : Row). Contains marks row.entry → ⊥) (take max (due loaded rows))) same (due-unmarked rows loaded max)) in
      subst (λ (row : Row). Contains all row.entry → ⊥) at (free k d.now (omega (arith, length-map refs (λ (row : Bor Row). row.now)))) there

  pub due_rising : IsHistory rows → now_of refs ≡ take max (due loaded rows) → AllPairs (λ (one other : Bor Row). one.now.entry < other.now.entry) refs
  due_rising h e i j d before within =
      let rise : AllPairs (λ (a b : Row). a.entry < b.entry) (now_of refs) = subst (λ (rs : List Row). AllPairs (λ (a b : Row). a.entry < b.entry) rs) (sym e) (due-rise rows loaded max h) in
      let long : length (now_of refs) ≡ length refs = length-map refs (λ (row : Bor Row). row.now) in
      let one : get_or (now_of refs) i d.now ≡ (get_or refs i d).now = get_or-map (λ (row : Bor Row). row.now) refs i d d.now (omega arith) in
      let two : get_or (now_of refs) j d.now ≡ (get_or refs j d).now = get_or-map (λ (row : Bor Row). row.now) refs j d d.now within in
      subst (λ (row : Row). (get_or refs i d).now.entry < row.entry) two
      (subst (λ (row : Row). row.entry < (get_or (now_of refs) j d.now).entry) one (rise i j d.now before (omega arith)))

-- ---- the sending of them, over what the keeper may tell

module _ (old middle new last : List ℕ → Type 0) (doubt later left : Option ℕ) (t u : Option (List ℕ)) (either : MarksEither doubt old middle) (stay : MarksStay middle new)
    (loaded : List ℕ) (answer : (all : List ℕ) → new all → loaded ≡ all) (rows : List Row) (max : ℕ) (history : IsHistory rows) (sent : List Row) (same : sent ≡ take max (due loaded rows)) where
  -- It stopped at one of them.
  pub ends_at_one : (result : Result ℕ SendStop) (stop field : SendStop) → result ≡ Err stop → stop ≡ field
      → OverTold new last (λ before after. StopsIn sent field (record { marks = before; doubt = later; taken = t }) (record { marks = after; doubt = left; taken = u }))
      → OverTold old last (λ before after. Sends rows max result (record { marks = before; doubt = doubt; taken = t }) (record { marks = after; doubt = left; taken = u }))
  ends_at_one result stop field is f s =
      over_then old last (λ before after. Sends rows max result (record { marks = before; doubt = doubt; taken = t }) (record { marks = after; doubt = left; taken = u })) new
      (OpenedWith doubt later t t loaded)
      (λ before after. StopsIn sent field (record { marks = before; doubt = later; taken = t }) (record { marks = after; doubt = left; taken = u }))
      (opened_over old middle new doubt later t t either stay loaded answer) s
      (λ before between after told o k.
      let b : Told = record { marks = before; doubt = doubt; taken = t } in
      let m : Told = record { marks = between; doubt = later; taken = t } in
      let n : Told = record { marks = after; doubt = left; taken = u } in
      rw (is, f) (ends_at rows max field b m n loaded history o refl (subst (λ (rs : List Row). StopsIn rs field m n) same k)))

  -- All of them were sent.
  pub ends_all : (count : ℕ) → count ≡ length sent
      → OverTold new last (λ before after. HasSent sent (record { marks = before; doubt = later; taken = t }) (record { marks = after; doubt = left; taken = u }))
      → OverTold old last (λ before after. Sends rows max (Ok count) (record { marks = before; doubt = doubt; taken = t }) (record { marks = after; doubt = left; taken = u }))
  ends_all count is s =
      over_then old last (λ before after. Sends rows max (Ok count) (record { marks = before; doubt = doubt; taken = t }) (record { marks = after; doubt = left; taken = u })) new
      (OpenedWith doubt later t t loaded)
      (λ before after. HasSent sent (record { marks = before; doubt = later; taken = t }) (record { marks = after; doubt = left; taken = u }))
      (opened_over old middle new doubt later t t either stay loaded answer) s
      (λ before between after told o k.
      let b : Told = record { marks = before; doubt = doubt; taken = t } in
      let m : Told = record { marks = between; doubt = later; taken = t } in
      let n : Told = record { marks = after; doubt = left; taken = u } in
      ends_whole rows max count b m n loaded history o refl (subst (λ (rs : List Row). HasSent rs m n) same k) (is ∙ ap length same))
