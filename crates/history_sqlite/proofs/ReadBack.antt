-- A row that is read from the columns of a row is that row, and one is read.
use Rattle.std.proofs.Common.{◌≡◌, ◌⊎◌, inl, inr, ℕ, ◌<◌, ◌^◌, pos, Bool, true, false, nat_lt, ◌==◌, if◌then◌else◌, List, [], ◌∷◌, ◌++◌, map, length, position, Option, Some, None, option_map, IfSome, Result, Ok, Err, refl, sym, ap, ◌∙◌, arith}
use Rattle.std.specs.Result.{result_ok}
use Rattle.fw_base.specs.Names.{name_read, name_unless, is_no_name_byte}
use Rattle.version_formats.specs.Versions.{version_read, version_unless, is_no_version_byte}
use Rattle.sqlite.specs.declared.types.Value.{Value}
use Rattle.sqlite.specs.declared.types.Value.TheVariants.{Int, Text, Blob}
use Rattle.sqlite.specs.Values.{or_null}
use Rattle.history_keeper.specs.declared.row.Row.{Row}
use Rattle.history_keeper.specs.declared.row.RowState.{RowState}
use Rattle.history_keeper.specs.declared.row.RowState.TheVariants.{Pending}
use Rattle.history_sqlite.specs.Columns.{◌>>=◌, columns_of, older_columns_of, row_read, older_row_read, taken_over, optional, number_in, bytes_in, name_in, version_in, state_in, state_number}

step : {A B : Type 0} (o : Option A) (a : A) (f : A → Option B) (b : B) → (o ≡ None) ⊎ (o ≡ Some a) → (o >>= f) ≡ Some b → f a ≡ Some b
step o a f b (inl none) h = absurd (let e = rw none at h in cc)
step o a f b (inr some) h = rw some at h

none_or : {A : Type 0} (o : Option A) (a : A) → ((x : A) → o ≡ Some x → x ≡ a) → (o ≡ None) ⊎ (o ≡ Some a)
none_or None a same = inl refl
none_or (Some x) a same = inr (ap Some (same x refl))

chosen : {A : Type 0} (b : Bool) (x y : A) → (if b then Some x else None) ≡ Some y → y ≡ x
chosen true x y h = cc
chosen false x y h = absurd cc

pub number_same : (end n m : ℕ) → number_in end (Int (pos n)) ≡ Some m → m ≡ n
number_same end n m h = chosen (nat_lt n end) n m h

bytes_same : (size : ℕ) (b x : List ℕ) → bytes_in size (Blob b) ≡ Some x → x ≡ b
bytes_same size b x h = chosen (length b == size) b x h

ok_same : {A E : Type 0} (r : Result A E) (x : A) → result_ok r ≡ Some x → r ≡ Ok x
ok_same (Ok a) x h = cc
ok_same (Err e) x h = absurd cc

unless_name : (o : Option ℕ) (t x : List ℕ) → name_unless o t ≡ Ok x → x ≡ t
unless_name None t x h = cc
unless_name (Some at) t x h = absurd cc

unless_version : (o : Option ℕ) (t x : List ℕ) → version_unless o t ≡ Ok x → x ≡ t
unless_version None t x h = cc
unless_version (Some at) t x h = absurd cc

tested : {A E : Type 0} (b : Bool) (e : E) (r : Result A E) (x : A) → (if b then Err e else r) ≡ Ok x → r ≡ Ok x
tested true e r x h = absurd cc
tested false e r x h = h

name_same : (t x : List ℕ) → name_in (Text t) ≡ Some x → x ≡ t
name_same t x h = unless_name (position is_no_name_byte t) t x (tested (nat_lt 64 (length t)) _ _ x (tested (length t == 0) _ _ x (ok_same (name_read t) x h)))

version_same : (t x : List ℕ) → version_in (Text t) ≡ Some x → x ≡ t
version_same t x h = unless_version (position is_no_version_byte t) t x (tested (nat_lt 64 (length t)) _ _ x (tested (length t == 0) _ _ x (ok_same (version_read t) x h)))

state_given : (s : RowState) → state_in (Int (pos (state_number s))) ≡ Some s
state_given Pending = refl
state_given _ = refl

some_same : {A : Type 0} (a b : A) → Some a ≡ Some b → b ≡ a
some_same a b h = cc

older_read_back : (row r : Row) (more : List Value) → older_row_read (older_columns_of row ++ more) ≡ Some r → r ≡ taken_over row
older_read_back row r more h0 =
    let h1 = step (number_in (2 ^ 32) (Int (pos row.entry))) row.entry _ r (none_or (number_in (2 ^ 32) (Int (pos row.entry))) row.entry (number_same (2 ^ 32) row.entry)) h0 in
    let h2 = step (name_in (Text row.tag)) row.tag _ r (none_or (name_in (Text row.tag)) row.tag (name_same row.tag)) h1 in
    let h3 = step (number_in (2 ^ 32) (Int (pos row.client))) row.client _ r (none_or (number_in (2 ^ 32) (Int (pos row.client))) row.client (number_same (2 ^ 32) row.client)) h2 in
    let h4 = step (bytes_in 20 (Blob row.device)) row.device _ r (none_or (bytes_in 20 (Blob row.device)) row.device (bytes_same 20 row.device)) h3 in
    let h5 = step (name_in (Text row.component)) row.component _ r (none_or (name_in (Text row.component)) row.component (name_same row.component)) h4 in
    let h6 = step (version_in (Text row.version_old)) row.version_old _ r (none_or (version_in (Text row.version_old)) row.version_old (version_same row.version_old)) h5 in
    let h7 = step (version_in (Text row.version_new)) row.version_new _ r (none_or (version_in (Text row.version_new)) row.version_new (version_same row.version_new)) h6 in
    let h8 = step (bytes_in 32 (Blob row.digest)) row.digest _ r (none_or (bytes_in 32 (Blob row.digest)) row.digest (bytes_same 32 row.digest)) h7 in
    let h9 = step (number_in (2 ^ 8) (Int (pos row.flags))) row.flags _ r (none_or (number_in (2 ^ 8) (Int (pos row.flags))) row.flags (number_same (2 ^ 8) row.flags)) h8 in
    let h10 = step (state_in (Int (pos (state_number row.state)))) row.state _ r (inr (state_given row.state)) h9 in
    let h11 = step (number_in (2 ^ 8) (Int (pos row.reason))) row.reason _ r (none_or (number_in (2 ^ 8) (Int (pos row.reason))) row.reason (number_same (2 ^ 8) row.reason)) h10 in
    let h12 = step (number_in (2 ^ 64) (Int (pos row.time_added))) row.time_added _ r (none_or (number_in (2 ^ 64) (Int (pos row.time_added))) row.time_added (number_same (2 ^ 64) row.time_added)) h11 in
    let h13 = step (number_in (2 ^ 64) (Int (pos row.time_changed))) row.time_changed _ r (none_or (number_in (2 ^ 64) (Int (pos row.time_changed))) row.time_changed (number_same (2 ^ 64) row.time_changed)) h12 in
    some_same (taken_over row) r h13

mapped : {A : Type 0} (o : Option A) (a : A) (x : Option A) → ((y : A) → o ≡ Some y → y ≡ a) → option_map (λ (y : A). Some y) o ≡ Some x → x ≡ Some a
mapped None a x same h = absurd cc
mapped (Some y) a x same h = let e : Some y ≡ x = cc in sym e ∙ ap (λ (z : _). Some z) (same y refl)

text_same : (t x : Option (List ℕ)) → optional name_in (or_null Text t) ≡ Some x → x ≡ t
text_same None x h = let e : Some None ≡ Some x = h in some_same None x e
text_same (Some t) x h = mapped (name_in (Text t)) t x (name_same t) h

link_same : (n x : Option ℕ) → optional (number_in (2 ^ 32)) (or_null (λ (k : ℕ). Int (pos k)) n) ≡ Some x → x ≡ n
link_same None x h = let e : Some None ≡ Some x = h in some_same None x e
link_same (Some n) x h = mapped (number_in (2 ^ 32) (Int (pos n))) n x (number_same (2 ^ 32) n) h

abbrev last_columns : Row → List Value
last_columns row = Int (pos row.duration) ∷ or_null Text row.protocol ∷ or_null (λ (k : ℕ). Int (pos k)) row.retry_of ∷ []

pub read_back : (row r : Row) → row_read (columns_of row) ≡ Some r → r ≡ row
read_back row r h0 =
    let h1 = step (older_row_read (columns_of row)) (taken_over row) _ r (none_or (older_row_read (columns_of row)) (taken_over row) (λ x e. older_read_back row x (last_columns row) e)) h0 in
    let h2 = step (number_in (2 ^ 32) (Int (pos row.duration))) row.duration _ r (none_or (number_in (2 ^ 32) (Int (pos row.duration))) row.duration (number_same (2 ^ 32) row.duration)) h1 in
    let h3 = step (optional name_in (or_null Text row.protocol)) row.protocol _ r (none_or (optional name_in (or_null Text row.protocol)) row.protocol (text_same row.protocol)) h2 in
    let h4 = step (optional (number_in (2 ^ 32)) (or_null (λ (k : ℕ). Int (pos k)) row.retry_of)) row.retry_of _ r (none_or (optional (number_in (2 ^ 32)) (or_null (λ (k : ℕ). Int (pos k)) row.retry_of)) row.retry_of (link_same row.retry_of)) h3 in
    some_same row r h4

pub all_back : (rows read : List Row) → map (λ (r : Row). Some r) read ≡ map row_read (map columns_of rows) → read ≡ rows
all_back [] [] h = refl
all_back [] (r ∷ read) h = absurd cc
all_back (row ∷ rows) [] h = absurd cc
all_back (row ∷ rows) (r ∷ read) h =
    let first : row_read (columns_of row) ≡ Some r = cc in
    let rest : map (λ (r : Row). Some r) read ≡ map row_read (map columns_of rows) = cc in
    let a = read_back row r first in
    let b = all_back rows read rest in
    rw (a, b)

next : {A B : Type 0} (o : Option A) (a : A) (f : A → Option B) (b : Option B) → o ≡ Some a → f a ≡ b → (o >>= f) ≡ b
next o a f b some then_b = rw some then_b

number_given : (end n : ℕ) → n < end → number_in end (Int (pos n)) ≡ Some n
number_given end n below = grind arith

bytes_given : (size : ℕ) (b : List ℕ) → length b ≡ size → bytes_in size (Blob b) ≡ Some b
bytes_given size b sized = grind arith

name_given : (t : List ℕ) → name_read t ≡ Ok t → name_in (Text t) ≡ Some t
name_given t read = ap result_ok read

version_given : (t : List ℕ) → version_read t ≡ Ok t → version_in (Text t) ≡ Some t
version_given t read = ap result_ok read

text_given : (t : Option (List ℕ)) → IfSome t (λ name. name_read name ≡ Ok name) → optional name_in (or_null Text t) ≡ Some t
text_given None read = refl
text_given (Some t) read = ap (option_map (λ (name : List ℕ). Some name)) (name_given t read)

link_given : (n : Option ℕ) → IfSome n (λ k. k < 2 ^ 32) → optional (number_in (2 ^ 32)) (or_null (λ (k : ℕ). Int (pos k)) n) ≡ Some n
link_given None below = refl
link_given (Some n) below = ap (option_map (λ (k : ℕ). Some k)) (number_given (2 ^ 32) n below)

-- The numbers are in the ranges of their types, and the bytes are as many as theirs have.
pub record HasRanges (row : Row) : Type 0 where
  pub entry : row.entry < 2 ^ 32
  pub client : row.client < 2 ^ 32
  pub device : length row.device ≡ 20
  pub digest : length row.digest ≡ 32
  pub flags : row.flags < 2 ^ 8
  pub reason : row.reason < 2 ^ 8
  pub time_added : row.time_added < 2 ^ 64
  pub time_changed : row.time_changed < 2 ^ 64
  pub duration : row.duration < 2 ^ 32
  pub retry_of : IfSome row.retry_of (λ k. k < 2 ^ 32)

-- A row's tag, component and protocol are names, and its versions are versions: each reader gives back what it reads.
pub record HasTexts (row : Row) : Type 0 where
  pub tag : name_read row.tag ≡ Ok row.tag
  pub component : name_read row.component ≡ Ok row.component
  pub version_old : version_read row.version_old ≡ Ok row.version_old
  pub version_new : version_read row.version_new ≡ Ok row.version_new
  pub protocol : IfSome row.protocol (λ name. name_read name ≡ Ok name)

older_is_read_back : (row : Row) (more : List Value) → HasRanges row → HasTexts row → older_row_read (older_columns_of row ++ more) ≡ Some (taken_over row)
older_is_read_back row more ranges texts =
    next _ row.entry _ _ (number_given (2 ^ 32) row.entry ranges.entry)
    (next _ row.tag _ _ (name_given row.tag texts.tag)
    (next _ row.client _ _ (number_given (2 ^ 32) row.client ranges.client)
    (next _ row.device _ _ (bytes_given 20 row.device ranges.device)
    (next _ row.component _ _ (name_given row.component texts.component)
    (next _ row.version_old _ _ (version_given row.version_old texts.version_old)
    (next _ row.version_new _ _ (version_given row.version_new texts.version_new)
    (next _ row.digest _ _ (bytes_given 32 row.digest ranges.digest)
    (next _ row.flags _ _ (number_given (2 ^ 8) row.flags ranges.flags)
    (next _ row.state _ _ (state_given row.state)
    (next _ row.reason _ _ (number_given (2 ^ 8) row.reason ranges.reason)
    (next _ row.time_added _ _ (number_given (2 ^ 64) row.time_added ranges.time_added)
    (next _ row.time_changed _ _ (number_given (2 ^ 64) row.time_changed ranges.time_changed) refl))))))))))))

pub is_read_back : (row : Row) → HasRanges row → HasTexts row → row_read (columns_of row) ≡ Some row
is_read_back row ranges texts =
    next _ (taken_over row) _ _ (older_is_read_back row (last_columns row) ranges texts)
    (next _ row.duration _ _ (number_given (2 ^ 32) row.duration ranges.duration)
    (next _ row.protocol _ _ (text_given row.protocol texts.protocol)
    (next _ row.retry_of _ _ (link_given row.retry_of ranges.retry_of) refl)))
