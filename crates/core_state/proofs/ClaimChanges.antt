-- What one live entry more or less changes of the claims.
use Rattle.std.proofs.Common.{◌≡◌, ℕ, Bool, true, false, cond, not, List, [], ◌∷◌, ◌++◌, map, refl, ap, sym, ◌∙◌}
use Rattle.std.specs.Prelude.{Option, Some, None, ◌==◌, find, option_map, unwrap_or, if◌then◌else◌}
use Rattle.std.specs.Str.{bytes_eq}
use Rattle.std.proofs.lemmas.Bool.{eqb-true, eq-eqb, true≢false}
use Rattle.device_list.specs.Lists.{claimed_on}
use Rattle.fw_facts.specs.declared.view.DeviceView.{DeviceView}
use Rattle.history_keeper.specs.declared.row.Row.{Row}
use Rattle.update_log.proofs.Lists.{by_test, find-filter}
use Rattle.update_log.proofs.Openings.{bytes-same}
use Rattle.core_state.specs.CoreSteps.{entry_changed}
use Rattle.core_state.specs.CoreViews.{claimed, unclaimed}
use Rattle.update_log.specs.Holding.{blocks_fetched, blocks_fetched_if, live_after, without_entry}
use Rattle.update_log.specs.Known.{is_on, row_of}
use Rattle.update_log.specs.Pasts.{is_boot}
use Rattle.update_log.specs.declared.answer.ClaimAnswer.{ClaimAnswer}
use Rattle.update_log.specs.declared.answer.ResumeAnswer.{ResumeAnswer}
use Rattle.update_log.specs.declared.event.Back.{Back}
use Rattle.update_log.specs.declared.event.Event.{Event}
use Rattle.update_log.specs.declared.live.LiveEntry.{LiveEntry}

-- Whether a row is of that device, where there is one.
abbrev of-device : List ℕ → Option Row → Bool
of-device device o = unwrap_or (option_map (λ r. bytes_eq r.device device) o) false

-- A device that isn't that of the entry's row has the same live entry with it and without it.
elsewhere : (rows : List Row) (device : List ℕ) (entry : ℕ) (before after : List LiveEntry)
    → of-device device (row_of rows entry) ≡ false → without_entry entry before ≡ without_entry entry after
    → find (is_on rows device) before ≡ find (is_on rows device) after
elsewhere rows device entry before after away same =
    let other : (l : LiveEntry) → is_on rows device l ≡ true → not (l.entry == entry) ≡ true =
    λ l on.
    by_test (l.entry == entry) _
    (λ t. absurd (true≢false (sym on ∙ ap (λ (e : ℕ). of-device device (row_of rows e)) (eqb-true l.entry entry t) ∙ away)))
    (λ t. rw t refl) in
    sym (find-filter (is_on rows device) (λ l. not (l.entry == entry)) before other)
    ∙ ap (λ (ls : List LiveEntry). find (is_on rows device) ls) same
    ∙ find-filter (is_on rows device) (λ l. not (l.entry == entry)) after other

claimed-alike : (rows : List Row) (before after : List LiveEntry) (view : DeviceView)
    → find (is_on rows view.sheet.device) before ≡ find (is_on rows view.sheet.device) after → claimed rows before view ≡ claimed rows after view
claimed-alike rows before after view e =
    ap (λ (o : Option LiveEntry). let w : DeviceView = record view { claim = option_map (λ l. l.entry) o } in w) e

-- So where the entry has no row the claims stay.
pub claims-of-none : (rows : List Row) (entry : ℕ) (before after : List LiveEntry) → row_of rows entry ≡ None → without_entry entry before ≡ without_entry entry after
    → (views : List DeviceView) → map (claimed rows before) views ≡ map (claimed rows after) views
claims-of-none rows entry before after none same [] = refl
claims-of-none rows entry before after none same (v ∷ views) =
    let first : claimed rows before v ≡ claimed rows after v =
    claimed-alike rows before after v (elsewhere rows v.sheet.device entry before after (ap (of-device v.sheet.device) none) same) in
    ap (λ (w : DeviceView). w ∷ map (claimed rows before) views) first
    ∙ ap (λ (vs : List DeviceView). claimed rows after v ∷ vs) (claims-of-none rows entry before after none same views)

-- And where it has one the claim of that row's device alone changes: the device has the first live entry that is of it.
claimed-one : (rows : List Row) (entry : ℕ) (row : Row) (before after : List LiveEntry) → row_of rows entry ≡ Some row → without_entry entry before ≡ without_entry entry after
    → (view : DeviceView) → claimed rows before view ≡ view
    → claimed_on row.device (option_map (λ l. l.entry) (find (is_on rows row.device) after)) view ≡ claimed rows after view
claimed-one rows entry row before after some same view had =
    by_test (bytes_eq row.device view.sheet.device) _
    (λ t.
    let here : row.device ≡ view.sheet.device = bytes-same row.device view.sheet.device t in
    rw t (ap (λ (device : List ℕ). let w : DeviceView = record view { claim = option_map (λ l. l.entry) (find (is_on rows device) after) } in w) here))
    (λ t. rw t (sym had ∙ claimed-alike rows before after view (elsewhere rows view.sheet.device entry before after (ap (of-device view.sheet.device) some ∙ t) same)))

pub claims-of-one : (rows : List Row) (entry : ℕ) (row : Row) (before after : List LiveEntry) → row_of rows entry ≡ Some row → without_entry entry before ≡ without_entry entry after
    → (views : List DeviceView) → map (claimed rows before) views ≡ views
    → map (claimed_on row.device (option_map (λ l. l.entry) (find (is_on rows row.device) after))) views ≡ map (claimed rows after) views
claims-of-one rows entry row before after some same [] had = refl
claims-of-one rows entry row before after some same (v ∷ views) had =
    let first : claimed rows before v ≡ v = cc in
    let rest : map (claimed rows before) views ≡ views = cc in
    ap (λ (w : DeviceView). w ∷ map (claimed_on row.device (option_map (λ l. l.entry) (find (is_on rows row.device) after))) views) (claimed-one rows entry row before after some same v first)
    ∙ ap (λ (vs : List DeviceView). claimed rows after v ∷ vs) (claims-of-one rows entry row before after some same views rest)

-- An entry that came, or that went, is left out on both sides.
came : (entry : ℕ) (entries : List LiveEntry) (l : LiveEntry) → l.entry ≡ entry → without_entry entry entries ≡ without_entry entry (entries ++ l ∷ [])
came entry [] l e = rw (eq-eqb l.entry entry e) refl
came entry (k ∷ entries) l e = ap (λ (ls : List LiveEntry). cond (not (k.entry == entry)) (k ∷ ls) ls) (came entry entries l e)

went : (entry : ℕ) (entries : List LiveEntry) → without_entry entry entries ≡ without_entry entry (without_entry entry entries)
went entry [] = refl
went entry (k ∷ entries) =
    by_test (k.entry == entry) _ (λ t. rw t (went entry entries)) (λ t. rw (t, t) (ap (λ (ls : List LiveEntry). k ∷ ls) (went entry entries)))

went-as : (entry other : ℕ) (entries : List LiveEntry) → other ≡ entry → without_entry entry entries ≡ without_entry entry (without_entry other entries)
went-as entry other entries e = went entry entries ∙ ap (λ (n : ℕ). without_entry entry (without_entry n entries)) (sym e)

-- An event that takes or ends an entry leaves the others.
pub one-changes : (event : Event) (entry : ℕ) (before : List LiveEntry) → entry_changed event ≡ Some entry
    → without_entry entry before ≡ without_entry entry (live_after event before)
one-changes (Event.Boot number time limit found boards) entry before h = cc
one-changes (Event.Query client query) entry before h = cc
one-changes (Event.Ask client request pending answer) entry before h = cc
one-changes (Event.Claim client request fetched (ClaimAnswer.Entry e)) entry before h =
    came entry before (record { client = client; entry = e; blocks = blocks_fetched fetched }) (cc)
one-changes (Event.Claim client request fetched (ClaimAnswer.Kept e state)) entry before h = cc
one-changes (Event.Claim client request fetched (ClaimAnswer.Refused refusal)) entry before h = cc
one-changes (Event.Schedule client request answer) entry before h = cc
one-changes (Event.Resume client e fetched ResumeAnswer.Begun stored) entry before h =
    came entry before (record { client = client; entry = e; blocks = blocks_fetched_if fetched }) (cc)
one-changes (Event.Resume client e fetched (ResumeAnswer.Refused refusal) stored) entry before h = cc
one-changes (Event.Start client e op) entry before h = cc
one-changes (Event.End client e op outcome told seen) entry before h = cc
one-changes (Event.Finish client e state stored) entry before h = went-as entry e before (cc)
one-changes (Event.Judge client e version state stored) entry before h = cc
one-changes (Event.Unplug client device answer) entry before h = cc
one-changes (Event.Plug client device answer) entry before h = cc
one-changes (Event.GiveBack client (Back.Tag tag)) entry before h = cc
one-changes (Event.GiveBack client (Back.Pending e)) entry before h = cc
one-changes (Event.GiveBack client (Back.Entry e)) entry before h = went-as entry e before (cc)
one-changes Event.Cut entry before h = cc

-- Any other event leaves them all, but for a boot, after which there is none.
pub none-changes : (event : Event) (rows : List Row) (before : List LiveEntry) (views : List DeviceView) → entry_changed event ≡ None
    → map (claimed rows before) views ≡ views → (if is_boot event then map unclaimed views else views) ≡ map (claimed rows (live_after event before)) views
none-changes (Event.Boot number time limit found boards) rows before views h had = refl
none-changes (Event.Query client query) rows before views h had = sym had
none-changes (Event.Ask client request pending answer) rows before views h had = sym had
none-changes (Event.Claim client request fetched (ClaimAnswer.Entry e)) rows before views h had = cc
none-changes (Event.Claim client request fetched (ClaimAnswer.Kept e state)) rows before views h had = sym had
none-changes (Event.Claim client request fetched (ClaimAnswer.Refused refusal)) rows before views h had = sym had
none-changes (Event.Schedule client request answer) rows before views h had = sym had
none-changes (Event.Resume client e fetched ResumeAnswer.Begun stored) rows before views h had = cc
none-changes (Event.Resume client e fetched (ResumeAnswer.Refused refusal) stored) rows before views h had = sym had
none-changes (Event.Start client e op) rows before views h had = sym had
none-changes (Event.End client e op outcome told seen) rows before views h had = sym had
none-changes (Event.Finish client e state stored) rows before views h had = cc
none-changes (Event.Judge client e version state stored) rows before views h had = sym had
none-changes (Event.Unplug client device answer) rows before views h had = sym had
none-changes (Event.Plug client device answer) rows before views h had = sym had
none-changes (Event.GiveBack client (Back.Tag tag)) rows before views h had = sym had
none-changes (Event.GiveBack client (Back.Pending e)) rows before views h had = sym had
none-changes (Event.GiveBack client (Back.Entry e)) rows before views h had = cc
none-changes Event.Cut rows before views h had = sym had
