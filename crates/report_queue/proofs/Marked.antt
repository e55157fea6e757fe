-- Rows that are sent one after the other, over references to them.
use Rattle.std.proofs.Common.{◌≡◌, ℕ, ◌+◌, ◌<◌, ◌≤◌, arith, List, [], ◌∷◌, ◌++◌, length, map, take, get_or, Bor, refl, sym, ap, subst, ◌∙◌, ◌⊎◌, inl, inr, append_assoc}
use Rattle.std.specs.Prelude.{All, AllPairs, Contains, Option, Some, None, option_map, IfSome, Err}
use Rattle.std.specs.Option.{ForSome}
use Rattle.std.proofs.lemmas.List.{append-nil, get_or-map, length-map, map-append, take-map, take_all, take_more}
use Rattle.std.proofs.lemmas.List.Concat.{flat_map-append}
use Rattle.std.proofs.lemmas.List.Elements.{Contains-append_cases}
use Rattle.outer_traits.specs.Sinks.{Took, TookFront}
use Rattle.outer_traits.proofs.Fronts.{took_more, took_none}
use Rattle.history_keeper.specs.declared.row.Row.{Row}
use Rattle.history_keeper.specs.declared.refusal.KeeperRefusal.{KeeperRefusal}
use Rattle.history_keeper.specs.declared.refusal.KeeperRefusal.TheVariants as refusals
use Rattle.report_queue.specs.declared.stop.SendStop.{SendStop}
use Rattle.report_queue.specs.declared.stop.SendStop.TheVariants.{SinkFault, KeeperFault, NoMemory}
use Rattle.report_queue.specs.Lines.{line}
use Rattle.report_queue.specs.Marking.{Marked, MarksWith, OverTold}
use Rattle.report_queue.specs.Sending.{entries_of, lines}
use Rattle.report_queue.specs.Stops.{Told, HasSent, StopsAt, StopsIn, stop_of}
use Rattle.report_queue.proofs.Pairs.{pairs_map}
use Rattle.report_queue.proofs.Rows.{not_before}
use Rattle.report_queue.proofs.Told.{over_none, over_stay, over_then, over_weaker, over_with}

-- what the references point to
abbrev pub now_of : List (Bor Row) → List Row
now_of rows = map (λ (row : Bor Row). row.now) rows

pub more-marks : (o : Option (List ℕ)) (one two : List ℕ) → option_map (λ (marks : List ℕ). marks ++ two) (option_map (λ (marks : List ℕ). marks ++ one) o) ≡ option_map (λ (marks : List ℕ). marks ++ (one ++ two)) o
more-marks None one two = refl
more-marks (Some marks) one two = ap Some (append_assoc marks one two)

pub no-marks : (o : Option (List ℕ)) → o ≡ option_map (λ (marks : List ℕ). marks ++ []) o
no-marks None = refl
no-marks (Some marks) = ap Some (sym (append-nil marks))

-- Nothing was sent.
pub sent_none : (t : Told) → t.doubt ≡ None → HasSent [] t t
sent_none t h = record { marks = no-marks t.marks; doubt = h; taken = took_none t.taken }

-- Some rows were sent, and then one.
sent_push : (rows : List Row) (row : Row) (a b c : Told) → HasSent rows a b → HasSent (row ∷ []) b c → HasSent (rows ++ row ∷ []) a c
sent_push rows row a b c h k = record {
  marks = k.marks ∙ ap (option_map (λ (marks : List ℕ). marks ++ row.entry ∷ [])) h.marks ∙ more-marks a.marks (entries_of rows) (row.entry ∷ [])
      ∙ ap (λ (es : List ℕ). option_map (λ (marks : List ℕ). marks ++ es) a.marks) (sym (map-append (λ (r : Row). r.entry) rows (row ∷ [])));
  doubt = k.doubt;
  taken = let P : List ℕ → Type 0 = λ text. Took text a.taken c.taken in
      subst P (sym (flat_map-append line rows (row ∷ []))) (took_more (lines rows) (lines (row ∷ [])) a.taken b.taken c.taken h.taken k.taken);
}

now-more : (rows : List (Bor Row)) (i : ℕ) (x : Bor Row) → i < length rows → x ≡ get_or rows i x → now_of (take (i + 1) rows) ≡ now_of (take i rows) ++ x.now ∷ []
now-more rows i x within is =
    ap now_of (take_more rows i x within ∙ ap (λ (r : Bor Row). take i rows ++ r ∷ []) (sym is))
    ∙ map-append (λ (row : Bor Row). row.now) (take i rows) (x ∷ [])

pub sent_more : (rows : List (Bor Row)) (i : ℕ) (x : Bor Row) (a b c : Told) → i < length rows → x ≡ get_or rows i x → HasSent (now_of (take i rows)) a b → HasSent (x.now ∷ []) b c → HasSent (now_of (take (i + 1) rows)) a c
sent_more rows i x a b c within is h k =
    let P : List Row → Type 0 = λ rs. HasSent rs a c in
    subst P (sym (now-more rows i x within is)) (sent_push (now_of (take i rows)) x.now a b c h k)

pub sent_all : (rows : List (Bor Row)) (i : ℕ) (a b : Told) → length rows ≤ i → HasSent (now_of (take i rows)) a b → HasSent (now_of rows) a b
sent_all rows i a b le h = let P : List (Bor Row) → Type 0 = λ rs. HasSent (now_of rs) a b in subst P (take_all i rows le) h

pub stopped_at : (rows : List (Bor Row)) (i : ℕ) (x : Bor Row) (stop : SendStop) (a b c : Told) → i < length rows → x ≡ get_or rows i x → HasSent (now_of (take i rows)) a b → StopsAt x.now stop b c → StopsIn (now_of rows) stop a c
stopped_at rows i x stop a b c within is h k = record {
  at = i;
  row = x.now;
  within = omega (arith, length-map rows (λ (row : Bor Row). row.now));
  is_there = ap (λ (r : Bor Row). r.now) is ∙ sym (get_or-map (λ (row : Bor Row). row.now) rows i x x.now within);
  middle = b;
  before = let P : List Row → Type 0 = λ rs. HasSent rs a b in subst P (sym (take-map (λ (row : Bor Row). row.now) i rows)) h;
  stops = k;
}

-- The next row isn't marked: it wasn't before, and the rows that were marked since have lower entries.

not_earlier : (rows : List (Bor Row)) (i : ℕ) (x : Bor Row) → i < length rows → x ≡ get_or rows i x → AllPairs (λ one other. one.now.entry < other.now.entry) rows
    → Contains (entries_of (now_of (take i rows))) x.now.entry → ⊥
not_earlier rows i x within is rising there =
    let there_too : Contains (entries_of (take i (now_of rows))) x.now.entry =
    subst (λ (rs : List Row). Contains (entries_of rs) x.now.entry) (sym (take-map (λ (row : Bor Row). row.now) i rows)) there in
    not_before (now_of rows) i x.now (omega (arith, length-map rows (λ (row : Bor Row). row.now)))
    (ap (λ (r : Bor Row). r.now) is ∙ sym (get_or-map (λ (row : Bor Row). row.now) rows i x x.now within))
    (pairs_map (λ (a b : Row). a.entry < b.entry) (λ (row : Bor Row). row.now) rows rising) there_too

unmarked_then : (o n : Option (List ℕ)) (rows : List (Bor Row)) (i : ℕ) (x : Bor Row) → i < length rows → x ≡ get_or rows i x
    → ForSome o (λ all. All (λ row. Contains all row.now.entry → ⊥) rows) → AllPairs (λ one other. one.now.entry < other.now.entry) rows
    → n ≡ option_map (λ (marks : List ℕ). marks ++ entries_of (now_of (take i rows))) o → ForSome n (λ all. Contains all x.now.entry → ⊥)
unmarked_then None n rows i x within is free rising e = λ all q. (let bad : None ≡ Some all = sym e ∙ q in cc)
unmarked_then (Some marks) n rows i x within is free rising e = λ all q there.
    let whole : marks ++ entries_of (now_of (take i rows)) ≡ all = (let same : Some (marks ++ entries_of (now_of (take i rows))) ≡ Some all = sym e ∙ q in cc) in
    by_part (Contains-append_cases marks (entries_of (now_of (take i rows))) x.now.entry (subst (λ (es : List ℕ). Contains es x.now.entry) (sym whole) there))
  where
    by_part : Contains marks x.now.entry ⊎ Contains (entries_of (now_of (take i rows))) x.now.entry → ⊥
    by_part (inl old) = (let P : Bor Row → Type 0 = λ r. Contains marks r.now.entry → ⊥ in subst P (sym is) (free marks refl i x within)) old
    by_part (inr new) = not_earlier rows i x within is rising new

-- What holds of each list that is told holds of one that may be told.
for_told : (tells P : List ℕ → Type 0) → ((all : List ℕ) → tells all → P all) → (o : Option (List ℕ)) → IfSome o tells → ForSome o P
for_told tells P each None told = λ all q. (let bad : None ≡ Some all = q in cc)
for_told tells P each (Some marks) told = λ all q. (let same : marks ≡ all = cc in each all (subst tells same told))

module _ (old new : List ℕ → Type 0) (d e : Option ℕ) (t u : Option (List ℕ)) (rows : List (Bor Row)) where
  pub unmarked_next : (i : ℕ) (x : Bor Row) → i < length rows → x ≡ get_or rows i x
      → ((all : List ℕ) → old all → All (λ row. Contains all row.now.entry → ⊥) rows) → AllPairs (λ one other. one.now.entry < other.now.entry) rows
      → OverTold old new (λ before after. HasSent (now_of (take i rows)) (record { marks = before; doubt = d; taken = t }) (record { marks = after; doubt = e; taken = u }))
      → (all : List ℕ) → new all → Contains all x.now.entry → ⊥
  unmarked_next i x within is free rising h all told =
      let r = h (Some all) told in
      unmarked_then r.0 (Some all) rows i x within is
      (for_told old (λ (marks : List ℕ). All (λ row. Contains marks row.now.entry → ⊥) rows) free r.0 r.1) rising r.2.marks all refl

-- ---- the same, over what the keeper may tell

-- Nothing was sent.
pub none_over : (tells : List ℕ → Type 0) (d : Option ℕ) (t : Option (List ℕ)) → d ≡ None → OverTold tells tells (λ before after. HasSent [] (record { marks = before; doubt = d; taken = t }) (record { marks = after; doubt = d; taken = t }))
none_over tells d t h =
    over_none tells (λ before after. HasSent [] (record { marks = before; doubt = d; taken = t }) (record { marks = after; doubt = d; taken = t })) (λ o. sent_none (record { marks = o; doubt = d; taken = t }) h)

module _ (old middle new : List ℕ → Type 0) (d e f : Option ℕ) (t u v : Option (List ℕ)) (rows : List (Bor Row)) (i : ℕ) (x : Bor Row) (within : i < length rows) (is : x ≡ get_or rows i x)
    (h : OverTold old middle (λ before after. HasSent (now_of (take i rows)) (record { marks = before; doubt = d; taken = t }) (record { marks = after; doubt = e; taken = u }))) where
  -- The next row was sent.
  pub more_over : OverTold middle new (λ before after. HasSent (x.now ∷ []) (record { marks = before; doubt = e; taken = u }) (record { marks = after; doubt = f; taken = v }))
      → OverTold old new (λ before after. HasSent (now_of (take (i + 1) rows)) (record { marks = before; doubt = d; taken = t }) (record { marks = after; doubt = f; taken = v }))
  more_over k =
      over_then old new (λ before after. HasSent (now_of (take (i + 1) rows)) (record { marks = before; doubt = d; taken = t }) (record { marks = after; doubt = f; taken = v })) middle
      (λ before after. HasSent (now_of (take i rows)) (record { marks = before; doubt = d; taken = t }) (record { marks = after; doubt = e; taken = u }))
      (λ before after. HasSent (x.now ∷ []) (record { marks = before; doubt = e; taken = u }) (record { marks = after; doubt = f; taken = v })) h k
      (λ before between after told one two.
      sent_more rows i x (record { marks = before; doubt = d; taken = t }) (record { marks = between; doubt = e; taken = u }) (record { marks = after; doubt = f; taken = v }) within is one two)

  -- Its sending stopped.
  pub stopped_over : (stop : SendStop) → OverTold middle new (λ before after. StopsAt x.now stop (record { marks = before; doubt = e; taken = u }) (record { marks = after; doubt = f; taken = v }))
      → OverTold old new (λ before after. StopsIn (now_of rows) stop (record { marks = before; doubt = d; taken = t }) (record { marks = after; doubt = f; taken = v }))
  stopped_over stop k =
      over_then old new (λ before after. StopsIn (now_of rows) stop (record { marks = before; doubt = d; taken = t }) (record { marks = after; doubt = f; taken = v })) middle
      (λ before after. HasSent (now_of (take i rows)) (record { marks = before; doubt = d; taken = t }) (record { marks = after; doubt = e; taken = u }))
      (λ before after. StopsAt x.now stop (record { marks = before; doubt = e; taken = u }) (record { marks = after; doubt = f; taken = v })) h k
      (λ before between after told one two.
      stopped_at rows i x stop (record { marks = before; doubt = d; taken = t }) (record { marks = between; doubt = e; taken = u }) (record { marks = after; doubt = f; taken = v }) within is one two)

-- All were sent.
pub all_over : (old new : List ℕ → Type 0) (d e : Option ℕ) (t u : Option (List ℕ)) (rows : List (Bor Row)) (i : ℕ) → length rows ≤ i
    → OverTold old new (λ before after. HasSent (now_of (take i rows)) (record { marks = before; doubt = d; taken = t }) (record { marks = after; doubt = e; taken = u }))
    → OverTold old new (λ before after. HasSent (now_of rows) (record { marks = before; doubt = d; taken = t }) (record { marks = after; doubt = e; taken = u }))
all_over old new d e t u rows i le h =
    over_weaker old new (λ before after. HasSent (now_of rows) (record { marks = before; doubt = d; taken = t }) (record { marks = after; doubt = e; taken = u }))
    (λ before after. HasSent (now_of (take i rows)) (record { marks = before; doubt = d; taken = t }) (record { marks = after; doubt = e; taken = u })) h
    (λ before after s. sent_all rows i (record { marks = before; doubt = d; taken = t }) (record { marks = after; doubt = e; taken = u }) le s)

-- ---- one row

-- The keeper refused to mark it.
pub refused_over : (old new : List ℕ → Type 0) (d e : Option ℕ) (t : Option (List ℕ)) (row : Row) (refusal : KeeperRefusal) → Marked {A = Unit {0}} row.entry (Err refusal) old new e
    → OverTold old new (λ before after. StopsAt row (stop_of refusal) (record { marks = before; doubt = d; taken = t }) (record { marks = after; doubt = e; taken = t }))
refused_over old new d e t row refusals.Fault m =
    over_stay old new (λ before after. StopsAt row KeeperFault (record { marks = before; doubt = d; taken = t }) (record { marks = after; doubt = e; taken = t })) m.0 (λ o. (refl, m.1, refl))
refused_over old new d e t row refusals.NoMemory m =
    over_stay old new (λ before after. StopsAt row NoMemory (record { marks = before; doubt = d; taken = t }) (record { marks = after; doubt = e; taken = t })) m.0 (λ o. (refl, m.1, refl))

module _ (old new : List ℕ → Type 0) (d e : Option ℕ) (t u : Option (List ℕ)) (row : Row) (made : MarksWith row.entry old new) (none : e ≡ None) where
  -- It was marked, and its line was cut off.
  pub cut_over : TookFront (line row) t u → OverTold old new (λ before after. StopsAt row SinkFault (record { marks = before; doubt = d; taken = t }) (record { marks = after; doubt = e; taken = u }))
  cut_over took =
      over_with old new (λ before after. StopsAt row SinkFault (record { marks = before; doubt = d; taken = t }) (record { marks = after; doubt = e; taken = u })) row.entry made (λ o. (refl, none, took))

  -- It was marked, and its line was written.
  pub written_over : Took (line row) t u → OverTold old new (λ before after. HasSent (row ∷ []) (record { marks = before; doubt = d; taken = t }) (record { marks = after; doubt = e; taken = u }))
  written_over took =
      over_with old new (λ before after. HasSent (row ∷ []) (record { marks = before; doubt = d; taken = t }) (record { marks = after; doubt = e; taken = u })) row.entry made
      (λ o. record { marks = refl; doubt = none; taken = subst (λ (text : List ℕ). Took text t u) (sym (append-nil (line row))) took })
