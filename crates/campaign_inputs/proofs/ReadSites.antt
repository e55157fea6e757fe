-- Every site that is read keeps to the limits.
use Rattle.std.proofs.Common.{◌≡◌, ℕ, suc, ◌+◌, ◌-◌, ◌^◌, ◌≤◌, List, [], ◌∷◌, ◌++◌, length, map, Bool, true, false, Result, Ok, Err, if◌then◌else◌, refl, sym, ap, subst, ◌∙◌, arith, nat_le, nat_lt, length-append}
use Rattle.std.specs.Prelude.{⊤, All, option_and_then}
use Rattle.std.proofs.lemmas.Bool.{ltb-false}
use Rattle.std.proofs.lemmas.List.{length-map}
use Rattle.std.proofs.lemmas.List.Elements.{All-map, All-nil, All-push, All-weaker}
use Rattle.serde_json.specs.Data.{Data, Items, no_items, item}
use Rattle.serde_json.specs.Find.{as_number, as_u64, get}
use Rattle.site_files.proofs.SoundBoards.{good_number}
use Rattle.update_log.specs.declared.facts.BootPlan.{BootPlan}
use Rattle.client_scripts.specs.declared.item.Item.{Item}
use Rattle.release_catalogue.specs.declared.word.Word.TheVariants as words
use Rattle.release_catalogue.specs.declared.reason.Reason.{Reason}
use Rattle.release_catalogue.specs.declared.reason.Reason.TheVariants.{TooMany}
use Rattle.release_catalogue.specs.declared.spot.Level.{Level}
use Rattle.release_catalogue.specs.declared.spot.Level.TheVariants.{First, Second, Third}
use Rattle.release_catalogue.specs.declared.spot.Spot.{Spot}
use Rattle.release_catalogue.specs.declared.spot.Fault.{Fault}
use Rattle.release_catalogue.specs.Words.{word_text}
use Rattle.release_catalogue.specs.Reading.{at_spot, each, entry_spot, field_of, maybe, needed, optional, refuse_if, the}
use Rattle.release_catalogue.specs.Kinds.{items_at, items_len, list_at, name_at, number_at, object_at, version_at}
use Rattle.release_catalogue.specs.Components.{components_at}
use Rattle.site_types.specs.declared.site.Site.{Site}
use Rattle.site_scripts.specs.Places.{spot_in, whole_spot}
use Rattle.site_remotes.specs.Remotes.{local, remotes_at}
use Rattle.site_scripts.specs.declared.boots.Boot.{Boot}
use Rattle.site_scripts.specs.declared.verb.Verb.{Verb}
use Rattle.site_scripts.specs.declared.verb.Verb.TheVariants as verbs
use Rattle.site_scripts.specs.Boots.{absents_at, boot_at, boots_at, items_in, items_of_boots, script_at, scripts_at}
use Rattle.site_scripts.specs.Clients.{client_at, clients_at}
use Rattle.site_scripts.specs.Items.{done_at, install_at, install_flags_at, item_at, no_install_flags, selector_at, verb_at}
use Rattle.site_files.specs.declared.board.Placed.{Placed}
use Rattle.site_files.specs.declared.document.Course.{Course}
use Rattle.site_files.specs.declared.document.Setting.{Setting}
use Rattle.site_files.specs.declared.machine.Machine.{Machine}
use Rattle.site_files.specs.Boards.{board_at, boards_at, ports_of}
use Rattle.site_files.specs.Machines.{known_at, machine_at, machine_spot, power_at}
use Rattle.site_files.specs.Quirks.{quirks_at}
use Rattle.site_files.specs.Sites.{course_at, setting_at, site_at, site_of}
use Rattle.site_files.specs.Texts.{json_at}
use Rattle.site_files.specs.Told.{in_words}
use Rattle.site_files.proofs.GoodReadings.{Good, good_after, good_default, good_each, good_list, good_then, good_unless, good_weaker}
use Rattle.site_files.proofs.SoundSites.{can_be_settled}
use Rattle.campaign_inputs.specs.Inputs.{stated}
use Rattle.campaign_inputs.specs.Limits.{CanBeRun, IsDone}

-- ---- readings

good_both : {A : Type 0} (P Q : A → Type 0) (r : Result A Fault) → Good P r → Good Q r → Good (λ a. P a × Q a) r
good_both P Q (Ok a) p q = (p, q)
good_both P Q (Err e) p q = tt

good_where : {A : Type 0} (P : A → Type 0) (b : Bool) (spot : Spot) (reason : Reason) (r : Result A Fault) → (b ≡ false → Good P r) → Good P (if b then at_spot spot reason else r)
good_where P true spot reason r h = tt
good_where P false spot reason r h = h refl

-- ---- numbers

number_within : (least most : ℕ) (spot : Spot) (d : Data) → Good (λ (n : ℕ). n ≤ most) (number_at least most spot d)
number_within least most spot d = good_number least most spot (option_and_then as_u64 (as_number d))

-- ---- counts

each_counts : {A : Type 0} (read : List A → Spot → Data → Result A Fault) (place : ℕ → Spot) (earlier : List A) (ds : Items)
    → Good (λ (xs : List A). length xs ≡ length earlier + items_len ds) (each read place earlier ds)
each_counts read place earlier no_items = omega arith
each_counts {A = A} read place earlier (item d ds) =
    good_after (λ (xs : List A). length xs ≡ length earlier + suc (items_len ds)) (read earlier (place (length earlier)) d) (λ (x : A). each read place (earlier ++ x ∷ []) ds)
    (λ (x : A). good_weaker (λ (xs : List A). length xs ≡ length (earlier ++ x ∷ []) + items_len ds) (λ (xs : List A). length xs ≡ length earlier + suc (items_len ds))
    (each read place (earlier ++ x ∷ []) ds) (λ (xs : List A) h. omega (arith, h, length-append earlier (x ∷ []))) (each_counts read place (earlier ++ x ∷ []) ds))

each_within : {A : Type 0} (most : ℕ) (read : List A → Spot → Data → Result A Fault) (place : ℕ → Spot) (ds : Items) → items_len ds ≤ most
    → Good (λ (xs : List A). length xs ≤ most) (each read place [] ds)
each_within {A = A} most read place ds few =
    good_weaker (λ (xs : List A). length xs ≡ 0 + items_len ds) (λ (xs : List A). length xs ≤ most) (each read place [] ds)
    (λ (xs : List A) h. omega (arith, h)) (each_counts read place [] ds)

list_within : {A : Type 0} (most : ℕ) (read : List A → Spot → Data → Result A Fault) (spot base : Spot) (level : Level) (d : Data)
    → Good (λ (xs : List A). length xs ≤ most) (list_at most read spot base level d)
list_within {A = A} most read spot base level d =
    let Within : List A → Type 0 = λ xs. length xs ≤ most in
    good_after Within (items_at spot d) (λ (ds : Items). if nat_lt most (items_len ds) then at_spot spot TooMany else each read (entry_spot base level) [] ds)
    (λ (ds : Items). good_where Within (nat_lt most (items_len ds)) spot TooMany (each read (entry_spot base level) [] ds)
    (λ few. each_within most read (entry_spot base level) ds (ltb-false most (items_len ds) few)))

-- ---- items

install_done : (spot : Spot) (d : Data) → Good IsDone (install_at spot d)
unfolding install_at
install_done spot d =
    good_after IsDone (the spot words.Device selector_at d) _ (λ device.
    good_after IsDone (the spot words.Tag name_at d) _ (λ tag.
    good_after IsDone (the spot words.Version version_at d) _ (λ version.
    good_after IsDone (optional spot words.Flags install_flags_at no_install_flags d) _ (λ flags.
    good_after IsDone (maybe spot words.RetryOf (number_at 1 65536) d) _ (λ retry_of. tt {0})))))

verb_done : (verb : Verb) (spot : Spot) (d : Data) → Good IsDone (done_at verb spot d)
unfolding done_at
verb_done verbs.GetDevices spot d = tt
verb_done verbs.Install spot d = install_done spot d
verb_done verbs.GetHistory spot d = tt
verb_done _ spot d = good_after IsDone (the spot words.Device selector_at d) _ (λ device. tt)

item_done : (taken : ℕ) (spot : Spot) (d : Data) → Good IsDone (item_at taken spot d)
unfolding item_at
item_done taken spot d =
    good_after IsDone (object_at spot d) _ (λ (here : ⊤).
    good_after IsDone (refuse_if (nat_le 8192 taken) (field_of spot words.Do) TooMany) _ (λ (fits : ⊤).
    good_after IsDone (the spot words.Do verb_at d) _ (λ (verb : Verb). verb_done verb spot d)))

script_done : (taken : ℕ) (spot : Spot) (d : Data) → Good (All IsDone) (script_at taken spot d)
unfolding script_at
script_done taken spot d =
    good_after (All IsDone) (items_at spot d) _ (λ (ds : Items).
    good_each (All IsDone) (λ (earlier : List Item). item_at (taken + length earlier)) (entry_spot spot Third)
    (λ (earlier : List Item) (at : Spot) (one : Data) (h : All IsDone earlier).
    good_weaker IsDone (λ (x : Item). All IsDone (earlier ++ x ∷ [])) (item_at (taken + length earlier) at one)
    (λ (x : Item) done. All-push IsDone earlier x h done) (item_done (taken + length earlier) at one))
    [] ds (All-nil IsDone))

-- ---- boots

-- So many scripts at most, with items that may stand there.
record AreScripts (clients : ℕ) (scripts : List (List Item)) : Type 0 where
  few : length scripts ≤ clients
  done : All (All IsDone) scripts

scripts_done : (clients taken : ℕ) (base spot : Spot) (d : Data) → Good (AreScripts clients) (scripts_at clients taken base spot d)
unfolding scripts_at
scripts_done clients taken base spot d =
    let read : List (List Item) → Spot → Data → Result (List Item) Fault = λ earlier. script_at (taken + items_in earlier) in
    good_after (AreScripts clients) (items_at spot d) _ (λ (ds : Items).
    good_unless (AreScripts clients) (nat_lt clients (items_len ds)) spot TooMany _ (λ fits.
    good_weaker (λ (scripts : List (List Item)). (length scripts ≤ clients) × All (All IsDone) scripts) (AreScripts clients) (each read (entry_spot base Second) [] ds)
    (λ (scripts : List (List Item)) h. record { few = h.0; done = h.1 })
    (good_both (λ (scripts : List (List Item)). length scripts ≤ clients) (All (All IsDone)) (each read (entry_spot base Second) [] ds)
    (each_within clients read (entry_spot base Second) ds (ltb-false clients (items_len ds) fits))
    (good_each (All (All IsDone)) read (entry_spot base Second)
    (λ (earlier : List (List Item)) (at : Spot) (one : Data) (h : All (All IsDone) earlier).
    good_weaker (All IsDone) (λ (x : List Item). All (All IsDone) (earlier ++ x ∷ [])) (script_at (taken + items_in earlier) at one)
    (λ (x : List Item) done. All-push (All IsDone) earlier x h done) (script_done (taken + items_in earlier) at one))
    [] ds (All-nil (All IsDone))))))

record IsBoot (clients : ℕ) (boot : Boot) : Type 0 where
  timely : boot.plan.time ≤ 2 ^ 63 - 1
  scripts : AreScripts clients boot.scripts

boot_done : (ports : List (List ℕ)) (clients taken : ℕ) (spot : Spot) (d : Data) → Good (IsBoot clients) (boot_at ports clients taken spot d)
unfolding boot_at
boot_done ports clients taken spot d =
    let P : Boot → Type 0 = IsBoot clients in
    good_after P (object_at spot d) _ (λ (here : ⊤).
    good_then P (λ (t : ℕ). t ≤ 9223372036854775807) (the spot words.Time (number_at 0 9223372036854775807) d) _
    (good_after (λ (t : ℕ). t ≤ 9223372036854775807) (needed spot words.Time d) (number_at 0 9223372036854775807 (field_of spot words.Time)) (λ (found : Data). number_within 0 9223372036854775807 (field_of spot words.Time) found))
    (λ (time : ℕ) timely.
    good_after P (maybe spot words.CutAfter (number_at 0 1000000) d) _ (λ limit.
    good_after P (optional spot words.Absent (absents_at ports) [] d) _ (λ absent.
    good_then P (AreScripts clients) (optional spot words.Scripts (scripts_at clients taken spot) [] d) _
    (good_default (AreScripts clients) [] (scripts_at clients taken spot (field_of spot words.Scripts)) (get (word_text words.Scripts) d)
    (record { few = omega arith; done = All-nil (All IsDone) })
    (λ (found : Data). scripts_done clients taken spot (field_of spot words.Scripts) found))
    (λ (scripts : List (List Item)) done. record { timely = timely; scripts = done })))))

boots_done : (ports : List (List ℕ)) (clients : ℕ) (spot : Spot) (d : Data) → Good (All (IsBoot clients)) (boots_at ports clients spot d)
boots_done ports clients spot d =
    good_list (All (IsBoot clients)) 32 (λ (earlier : List Boot). boot_at ports clients (items_of_boots earlier)) spot (spot_in words.Boots words.Entry) First d
    (λ (earlier : List Boot) (at : Spot) (one : Data) (h : All (IsBoot clients) earlier).
    good_weaker (IsBoot clients) (λ (x : Boot). All (IsBoot clients) (earlier ++ x ∷ [])) (boot_at ports clients (items_of_boots earlier) at one)
    (λ (x : Boot) done. All-push (IsBoot clients) earlier x h done) (boot_done ports clients (items_of_boots earlier) at one))
    (All-nil (IsBoot clients))

-- ---- the site

record IsCourse (course : Course) : Type 0 where
  boards : length course.boards ≤ 256
  clients : length course.features ≤ 16
  boots : length course.boots ≤ 32
  times : All (λ (plan : BootPlan). plan.time ≤ 2 ^ 63 - 1) course.boots
  as_many : length course.scripts ≡ length course.boots
  scripts : All (λ (of_boot : List (List Item)). length of_boot ≤ length course.features) course.scripts
  done : All (All (All IsDone)) course.scripts

course_of : (boards : List Placed) (clients : List (List (List ℕ))) (boots : List Boot) → length boards ≤ 256 → length clients ≤ 16 → length boots ≤ 32 → All (IsBoot (length clients)) boots
    → IsCourse (record { boards = map (λ placed. placed.board) boards; features = clients; boots = map (λ boot. boot.plan) boots; scripts = map (λ boot. boot.scripts) boots })
course_of boards clients boots few_boards few_clients few_boots all = record {
  boards = rw (length-map boards (λ (placed : Placed). placed.board)) few_boards;
  clients = few_clients;
  boots = rw (length-map boots (λ (boot : Boot). boot.plan)) few_boots;
  times = All-map (λ (plan : BootPlan). plan.time ≤ 2 ^ 63 - 1) (λ (boot : Boot). boot.plan) boots
      (All-weaker (IsBoot (length clients)) (λ (boot : Boot). boot.plan.time ≤ 2 ^ 63 - 1) (λ boot h. h.timely) boots all);
  as_many = length-map boots (λ (boot : Boot). boot.scripts) ∙ sym (length-map boots (λ (boot : Boot). boot.plan));
  scripts = All-map (λ (of_boot : List (List Item)). length of_boot ≤ length clients) (λ (boot : Boot). boot.scripts) boots
      (All-weaker (IsBoot (length clients)) (λ (boot : Boot). length boot.scripts ≤ length clients) (λ boot h. h.scripts.few) boots all);
  done = All-map (All (All IsDone)) (λ (boot : Boot). boot.scripts) boots
      (All-weaker (IsBoot (length clients)) (λ (boot : Boot). All (All IsDone) boot.scripts) (λ boot h. h.scripts.done) boots all);
}

course_done : (d : Data) → Good IsCourse (course_at d)
unfolding course_at
course_done d =
    good_then IsCourse (λ (boards : List Placed). length boards ≤ 256) (the whole_spot words.Boards boards_at d) _
    (good_after (λ (boards : List Placed). length boards ≤ 256) (needed whole_spot words.Boards d) (boards_at (field_of whole_spot words.Boards))
    (λ (found : Data). list_within 256 board_at (field_of whole_spot words.Boards) (spot_in words.Boards words.Entry) First found))
    (λ (boards : List Placed) few_boards.
    good_then IsCourse (λ (clients : List (List (List ℕ))). length clients ≤ 16) (the whole_spot words.Clients clients_at d) _
    (good_after (λ (clients : List (List (List ℕ))). length clients ≤ 16) (needed whole_spot words.Clients d) (clients_at (field_of whole_spot words.Clients))
    (λ (found : Data). list_within 16 (λ _. client_at) (field_of whole_spot words.Clients) (spot_in words.Clients words.Entry) First found))
    (λ (clients : List (List (List ℕ))) few_clients.
    let Fine : List Boot → Type 0 = λ boots. (length boots ≤ 32) × All (IsBoot (length clients)) boots in
    let kind : Spot → Data → Result (List Boot) Fault = boots_at (ports_of boards) (length clients) in
    good_then IsCourse Fine (the whole_spot words.Boots kind d) _
    (good_after Fine (needed whole_spot words.Boots d) (kind (field_of whole_spot words.Boots))
    (λ (found : Data). good_both (λ (boots : List Boot). length boots ≤ 32) (All (IsBoot (length clients))) (kind (field_of whole_spot words.Boots) found)
    (list_within 32 (λ (earlier : List Boot). boot_at (ports_of boards) (length clients) (items_of_boots earlier)) (field_of whole_spot words.Boots) (spot_in words.Boots words.Entry) First found)
    (boots_done (ports_of boards) (length clients) (field_of whole_spot words.Boots) found)))
    (λ (boots : List Boot) fine. course_of boards clients boots few_boards few_clients fine.0 fine.1)))

machine_done : (spot : Spot) (d : Data) → Good (λ (m : Machine). m.pool ≤ 16384) (machine_at spot d)
unfolding machine_at
machine_done spot d =
    let P : Machine → Type 0 = λ m. m.pool ≤ 16384 in
    good_after P (object_at spot d) _ (λ (here : ⊤).
    good_after P (known_at machine_spot d) _ (λ known.
    good_after P (power_at machine_spot d) _ (λ power.
    good_then P (λ (n : ℕ). n ≤ 16384) (the machine_spot words.Pool (number_at 0 16384) d) _
    (good_after (λ (n : ℕ). n ≤ 16384) (needed machine_spot words.Pool d) (number_at 0 16384 (field_of machine_spot words.Pool)) (λ (found : Data). number_within 0 16384 (field_of machine_spot words.Pool) found))
    (λ (pool : ℕ) few. few))))

setting_done : (d : Data) → Good (λ (s : Setting). s.machine.pool ≤ 16384) (setting_at d)
unfolding setting_at
setting_done d =
    let P : Setting → Type 0 = λ s. s.machine.pool ≤ 16384 in
    good_after P (object_at whole_spot d) _ (λ (here : ⊤).
    good_after P (the (spot_in words.Format words.Format) words.Format (number_at 1 1) d) _ (λ form.
    good_then P (λ (m : Machine). m.pool ≤ 16384) (the whole_spot words.Machine machine_at d) _
    (good_after (λ (m : Machine). m.pool ≤ 16384) (needed whole_spot words.Machine d) (machine_at (field_of whole_spot words.Machine)) (λ (found : Data). machine_done (field_of whole_spot words.Machine) found))
    (λ (machine : Machine) few.
    good_after P (optional whole_spot words.Quirks quirks_at [] d) _ (λ quirks.
    good_after P (the whole_spot words.Components (λ _. components_at) d) _ (λ catalogue.
    good_after P (optional whole_spot words.Remotes (remotes_at (local catalogue)) (local catalogue ∷ []) d) _ (λ remotes. few))))))

record IsSite (site : Site) : Type 0 where
  boards : length site.boards ≤ 256
  clients : length site.features ≤ 16
  boots : length site.boots ≤ 32
  times : All (λ (plan : BootPlan). plan.time ≤ 2 ^ 63 - 1) site.boots
  pool : site.pool ≤ 16384
  as_many : length site.scripts ≡ length site.boots
  scripts : All (λ (of_boot : List (List Item)). length of_boot ≤ length site.features) site.scripts
  done : All (All (All IsDone)) site.scripts

site_done : (d : Data) → Good IsSite (site_at d)
unfolding site_at
site_done d =
    good_then IsSite (λ (s : Setting). s.machine.pool ≤ 16384) (setting_at d) _ (setting_done d) (λ (setting : Setting) few.
    good_then IsSite IsCourse (course_at d) _ (course_done d) (λ (course : Course) h.
    record { boards = h.boards; clients = h.clients; boots = h.boots; times = h.times; pool = few; as_many = h.as_many; scripts = h.scripts; done = h.done }))

site_read : (bytes : List ℕ) (site : Site) → site_of bytes ≡ Ok site → IsSite site
site_read bytes site e =
    subst (λ (reading : Result Site Fault). Good IsSite reading) e (good_after IsSite (json_at bytes) site_at (λ (d : Data). site_done d))

of_words : (reading : Result Site Fault) (site : Site) → in_words reading ≡ Ok site → reading ≡ Ok site
of_words (Ok x) site e = let h : x ≡ site = cc in ap (λ (s : Site). let r : Result Site Fault = Ok s in r) h
of_words (Err fault) site e = cc

pub can_be_run : (bytes : List ℕ) (site : Site) → stated bytes ≡ Ok site → CanBeRun site
can_be_run bytes site e =
    let read : site_of bytes ≡ Ok site = of_words (site_of bytes) site e in
    let h : IsSite site = site_read bytes site read in
    record {
      settled = can_be_settled bytes site read;
      boards = h.boards;
      clients = h.clients;
      boots = h.boots;
      times = h.times;
      pool = h.pool;
      as_many = h.as_many;
      scripts = h.scripts;
      items = h.done;
    }
