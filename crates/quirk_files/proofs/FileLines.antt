-- The lines of a file, read one after the other.
use Rattle.std.proofs.Common.{◌≡◌, ℕ, zero, suc, ◌+◌, ◌-◌, ◌<◌, ◌≤◌, Bool, List, [], ◌∷◌, ◌++◌, Bor, length, take, map, get_or, nat_lt, if◌then◌else◌, Option, Some, None, refl, sym, ap, ◌∙◌, arith}
use Rattle.std.specs.Prelude.{is_some}
use Rattle.std.specs.List.{filter_map, cons_option, last_or, slice_get, slice_split, range_with_len, count_by}
use Rattle.std.specs.Option.{option_or, option_to_list}
use Rattle.std.proofs.lemmas.List.{take_more, get_or-map, length-map}
use Rattle.std.proofs.lemmas.List.Elements.{filter_map-append}
use Rattle.std.proofs.lemmas.List.Splits.{length-slice_split}
use Rattle.std.proofs.lemmas.List.Sums.{count_by-le-length}
use Rattle.std.proofs.lemmas.Bool.Decides.{nat_tests}
use Rattle.quirk_files.specs.declared.fault.QuirkFault.{QuirkFault}
use Rattle.quirk_files.specs.declared.quirk.Quirk.{Quirk}
use Rattle.quirk_files.specs.Files.{line_fault, line_at, group_at, group_begun, fault_at, quirk_at, quirk_given, first_fault, quirks_of, without_return, file_fault, lines_of}
use Rattle.quirk_files.specs.Texts.{trimmed}
use Rattle.quirk_files.proofs.Loops.{read_more, last_read_more}

-- a range, cut in two
range_split : (a i k n b : ℕ) → n ≡ i + k → b ≡ a + i → range_with_len a n ≡ range_with_len a i ++ range_with_len b k
range_split a zero k n b hn hb = let e : n ≡ k = omega arith in let f : b ≡ a = omega arith in rw (e, f) refl
range_split a (suc i) k n b hn hb =
    let e : n ≡ suc (i + k) = omega arith in
    rw e (ap (λ rest. a ∷ rest) (range_split (a + 1) i k (i + k) b refl (omega arith)))

range_more : (n : ℕ) → range_with_len 0 (n + 1) ≡ range_with_len 0 n ++ n ∷ []
range_more n = range_split 0 n 1 (n + 1) n refl (omega arith)

-- the line of a file that a turn looks at
pub line_here : (lines : List (Bor (List ℕ))) (i : ℕ) (d : Bor (List ℕ)) (line : List ℕ) → i < length lines
    → line ≡ without_return (get_or lines i d).now → line ≡ line_at (map without_return (map (λ (l : Bor (List ℕ)). l.now) lines)) i
line_here lines i d line lt is =
    let texts : List (List ℕ) = map (λ (l : Bor (List ℕ)). l.now) lines in
    let long : length texts ≡ length lines = length-map lines (λ (l : Bor (List ℕ)). l.now) in
    is ∙ ap without_return (sym (get_or-map (λ (l : Bor (List ℕ)). l.now) lines i d d.now lt))
    ∙ sym (get_or-map without_return texts i d.now [] (omega arith))

-- what is found of it is what is wrong at its place
pub fault_here : (lines : List (List ℕ)) (i : ℕ) (group : Option (List ℕ)) (in_group : Bool) (line : List ℕ) (fault : Option QuirkFault)
    → group ≡ group_at lines i → in_group ≡ is_some group → line ≡ line_at lines i → fault ≡ line_fault in_group (i + 1) line → fault ≡ fault_at lines i
fault_here lines i group in_group line fault was there here is =
    is ∙ ap (λ (b : Bool). line_fault b (i + 1) line) (there ∙ ap is_some was) ∙ ap (line_fault (is_some (group_at lines i)) (i + 1)) here

pub none_of : {X : Type 0} (o : Option X) → ((x : X) → o ≡ Some x → ⊥) → o ≡ None
none_of None h = refl
none_of (Some x) h = absurd (h x refl)

pub quirks_more : (lines : List (List ℕ)) (i : ℕ) (file after : List Quirk) (group : Option (List ℕ)) (inner line : List ℕ)
    → file ≡ filter_map (quirk_at lines) (range_with_len 0 i) → group ≡ group_at lines i → line ≡ line_at lines i → inner ≡ trimmed line
    → after ≡ file ++ option_to_list (quirk_given group inner) → after ≡ filter_map (quirk_at lines) (range_with_len 0 (i + 1))
quirks_more lines i file after group inner line was in_group here cut is =
    is ∙ ap (λ (f : List Quirk). f ++ option_to_list (quirk_given group inner)) was
    ∙ ap (λ (g : Option (List ℕ)). filter_map (quirk_at lines) (range_with_len 0 i) ++ option_to_list (quirk_given g inner)) in_group
    ∙ ap (λ (t : List ℕ). filter_map (quirk_at lines) (range_with_len 0 i) ++ option_to_list (quirk_given (group_at lines i) t)) (cut ∙ ap trimmed here)
    ∙ sym (ap (filter_map (quirk_at lines)) (range_more i) ∙ read_more (quirk_at lines) (range_with_len 0 i) i)

pub group_more : (lines : List (List ℕ)) (i : ℕ) (group begun after : Option (List ℕ)) (inner line : List ℕ) → i < length lines
    → group ≡ group_at lines i → line ≡ line_at lines i → inner ≡ trimmed line → begun ≡ group_begun inner → after ≡ option_or begun group → after ≡ group_at lines (i + 1)
unfolding group_at
group_more lines i group begun after inner line lt was here cut new is =
    let h : List ℕ → Option (List ℕ) = λ l. group_begun (trimmed l) in
    is ∙ ap (λ (b : Option (List ℕ)). option_or b group) (new ∙ ap group_begun (cut ∙ ap trimmed here)) ∙ ap (option_or (h (line_at lines i))) was
    ∙ sym (ap (λ (front : List (List ℕ)). last_or None (filter_map h front)) (take_more lines i [] lt) ∙ last_read_more h (take i lines) (line_at lines i))

pub still_no_fault : (lines : List (List ℕ)) (i : ℕ) → filter_map (fault_at lines) (range_with_len 0 i) ≡ [] → fault_at lines i ≡ None
    → filter_map (fault_at lines) (range_with_len 0 (i + 1)) ≡ []
still_no_fault lines i none here =
    ap (filter_map (fault_at lines)) (range_more i) ∙ read_more (fault_at lines) (range_with_len 0 i) i
    ∙ ap (λ (front : List QuirkFault). front ++ option_to_list (fault_at lines i)) none ∙ ap option_to_list here

pub first_fault_is : (lines : List (List ℕ)) (i : ℕ) (fault : QuirkFault) → i < length lines → filter_map (fault_at lines) (range_with_len 0 i) ≡ []
    → fault_at lines i ≡ Some fault → first_fault lines ≡ Some fault
unfolding first_fault
first_fault_is lines i fault lt none here =
    let rest : ℕ = length lines - (i + 1) in
    let cut : range_with_len 0 (length lines) ≡ range_with_len 0 i ++ i ∷ range_with_len (i + 1) rest = range_split 0 i (suc rest) (length lines) i (omega arith) (omega arith) in
    let behind : List QuirkFault = filter_map (fault_at lines) (range_with_len (i + 1) rest) in
    ap (λ (faults : List QuirkFault). slice_get faults 0)
    (ap (filter_map (fault_at lines)) cut ∙ filter_map-append (fault_at lines) (range_with_len 0 i) (i ∷ range_with_len (i + 1) rest)
    ∙ ap (λ (front : List QuirkFault). front ++ cons_option (fault_at lines i) behind) none ∙ ap (λ (o : Option QuirkFault). cons_option o behind) here)

pub no_first_fault : (lines : List (List ℕ)) (i : ℕ) → i ≡ length lines → filter_map (fault_at lines) (range_with_len 0 i) ≡ [] → first_fault lines ≡ None
unfolding first_fault
no_first_fault lines i end none =
    ap (λ (faults : List QuirkFault). slice_get faults 0) (ap (λ (n : ℕ). filter_map (fault_at lines) (range_with_len 0 n)) (sym end) ∙ none)

pub all_quirks : (lines : List (List ℕ)) (i : ℕ) (file : List Quirk) → i ≡ length lines → file ≡ filter_map (quirk_at lines) (range_with_len 0 i) → file ≡ quirks_of lines
unfolding quirks_of
all_quirks lines i file end was = was ∙ ap (λ (n : ℕ). filter_map (quirk_at lines) (range_with_len 0 n)) end

pub in_lines : (lines : List (Bor (List ℕ))) (i : ℕ) → i < length lines → i < length (map without_return (map (λ (l : Bor (List ℕ)). l.now) lines))
in_lines lines i lt =
    let one = length-map lines (λ (l : Bor (List ℕ)). l.now) in
    let two = length-map (map (λ (l : Bor (List ℕ)). l.now) lines) without_return in omega arith

-- all lines were read
pub at_end : (lines : List (Bor (List ℕ))) (i : ℕ) → i ≤ length lines → length lines ≤ i → i ≡ length (map without_return (map (λ (l : Bor (List ℕ)). l.now) lines))
at_end lines i le ge =
    let one = length-map lines (λ (l : Bor (List ℕ)). l.now) in
    let two = length-map (map (λ (l : Bor (List ℕ)). l.now) lines) without_return in omega arith

-- a file has at most one line more than bytes
pub few_lines : (lines : List (Bor (List ℕ))) (p : ℕ → Bool) (bytes : List ℕ) → map (λ (l : Bor (List ℕ)). l.now) lines ≡ slice_split p bytes
    → length bytes ≤ 1048576 → length lines ≤ 1048577
few_lines lines p bytes split short =
    let as_many : length (map (λ (l : Bor (List ℕ)). l.now) lines) ≡ length lines = length-map lines (λ (l : Bor (List ℕ)). l.now) in
    let cut : length (slice_split p bytes) ≡ count_by p bytes + 1 = length-slice_split p bytes in
    let few : count_by p bytes ≤ length bytes = count_by-le-length p bytes in
    let same : length (map (λ (l : Bor (List ℕ)). l.now) lines) ≡ length (slice_split p bytes) = ap length split in
    omega arith

-- the fault of a file that is small enough is that of its lines
by_size : {X : Type 0} (n most : ℕ) (large small : X) → n ≤ most → (if nat_lt most n then large else small) ≡ small
by_size n most large small le = grind (arith, nat_tests)

pub small_file : (bytes : List ℕ) → length bytes ≤ 1048576 → file_fault bytes ≡ first_fault (lines_of bytes)
small_file bytes le = by_size (length bytes) 1048576 _ _ le
