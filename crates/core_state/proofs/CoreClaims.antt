-- The claims of the devices are the same over the rows after an event.
use Rattle.std.proofs.Common.{◌≡◌, ℕ, Bool, false, cond, List, [], ◌∷◌, map, refl, ap, sym, ◌∙◌}
use Rattle.std.specs.Prelude.{Option, Some, None, find, option_map, unwrap_or}
use Rattle.std.specs.List.{AllByRecursion}
use Rattle.std.specs.Str.{bytes_eq}
use Rattle.fw_facts.specs.declared.seen.Seen.{Seen}
use Rattle.fw_facts.specs.declared.view.DeviceView.{DeviceView}
use Rattle.history_keeper.specs.Histories.{IsHistory}
use Rattle.history_keeper.specs.declared.row.Row.{Row}
use Rattle.update_log.proofs.LegalOnce.{past-kept-on}
use Rattle.update_log.proofs.Lists.{All-map}
use Rattle.update_log.proofs.RowsKept.{fixed, goes_on-fixed, rows-step-on}
use Rattle.update_log.specs.Boards.{Board}
use Rattle.core_state.specs.CoreViews.{claimed, told_on}
use Rattle.update_log.specs.Holding.{live}
use Rattle.update_log.specs.Known.{Known, is_on, row_of, rows, view_of}
use Rattle.update_log.specs.Legal.{IsLegalUnlimited}
use Rattle.update_log.specs.Shows.{Campaign}
use Rattle.update_log.specs.declared.event.Event.{Event}
use Rattle.update_log.specs.declared.live.LiveEntry.{LiveEntry}

-- The row is of that device, which what of a row never changes says.
abbrev of-device : List ℕ → Option Row → Bool
of-device device o = unwrap_or (option_map (λ r. bytes_eq r.device device) o) false

through-fixed : (device : List ℕ) (o : Option Row) → of-device device (option_map fixed o) ≡ of-device device o
through-fixed device None = refl
through-fixed device (Some row) = refl

find-alike : (p q : LiveEntry → Bool) (entries : List LiveEntry) → AllByRecursion (λ l. p l ≡ q l) entries → find p entries ≡ find q entries
find-alike p q [] a = refl
find-alike p q (l ∷ entries) a = rw a.0 (ap (λ (o : Option LiveEntry). cond (q l) (Some l) o) (find-alike p q entries a.1))

-- Each view has its live entry over other rows, too, where the live entries' rows are of the same devices.
claims-alike : (old new : List Row) (entries : List LiveEntry) (views : List DeviceView)
    → AllByRecursion (λ l. (device : List ℕ) → is_on new device l ≡ is_on old device l) entries
    → map (claimed new entries) views ≡ map (claimed old entries) views
claims-alike old new entries [] a = refl
claims-alike old new entries (v ∷ views) a =
    ap (λ (o : Option LiveEntry). let w : DeviceView = record v { claim = option_map (λ l. l.entry) o } in w ∷ map (claimed new entries) views)
    (find-alike (is_on new v.sheet.device) (is_on old v.sheet.device) entries
    (All-map (λ l. (device : List ℕ) → is_on new device l ≡ is_on old device l) (λ l. is_on new v.sheet.device l ≡ is_on old v.sheet.device l) entries a (λ l w. w v.sheet.device)))
    ∙ ap (λ (vs : List DeviceView). claimed old entries v ∷ vs) (claims-alike old new entries views a)

-- What boards show doesn't change a claim.
claims-told : (told : ℕ → Option Seen) (entries : List LiveEntry) (known : Known) (boards : List Board)
    → map (claimed known.rows entries) (told_on told (map (λ b. b.number) boards) (map (view_of entries known) boards)) ≡ told_on told (map (λ b. b.number) boards) (map (view_of entries known) boards)
claims-told told entries known [] = refl
claims-told told entries known (b ∷ boards) =
    ap (λ (vs : List DeviceView). record (view_of entries known b) { seen = unwrap_or (told b.number) (known.shown b.number) } ∷ vs) (claims-told told entries known boards)

on-kept : (old new : List Row) (l : LiveEntry) → option_map fixed (row_of new l.entry) ≡ option_map fixed (row_of old l.entry) → (device : List ℕ) → is_on new device l ≡ is_on old device l
on-kept old new l e device =
    sym (through-fixed device (row_of new l.entry)) ∙ ap (of-device device) e ∙ through-fixed device (row_of old l.entry)

-- The rows of the live entries are of the same devices after a legal event.
live-on : (c : Campaign) (past : List Event) (event : Event) → IsHistory c.basis.opening → IsLegalUnlimited c (event ∷ past)
    → AllByRecursion (λ l. (device : List ℕ) → is_on (rows c.basis (event ∷ past)) device l ≡ is_on (rows c.basis past) device l) (live past)
live-on c past event v l =
    let k = past-kept-on c past v l.0 in
    let r = rows-step-on c past event k.rows_kept l.1 l.2 in
    All-map _ _ (live past) k.steps.live_is
    (λ m w. on-kept (rows c.basis past) (rows c.basis (event ∷ past)) m
    (goes_on-fixed (rows c.basis past) (rows c.basis (event ∷ past)) m.entry r.goes_on w.known))

pub claims-stay : (c : Campaign) (past : List Event) (event : Event) (told : ℕ → Option Seen) (known : Known) (boards : List Board)
    → IsHistory c.basis.opening → IsLegalUnlimited c (event ∷ past) → known.rows ≡ rows c.basis past
    → map (claimed (rows c.basis (event ∷ past)) (live past)) (told_on told (map (λ b. b.number) boards) (map (view_of (live past) known) boards))
    ≡ told_on told (map (λ b. b.number) boards) (map (view_of (live past) known) boards)
claims-stay c past event told known boards v l e =
    claims-alike (rows c.basis past) (rows c.basis (event ∷ past)) (live past) _ (live-on c past event v l)
    ∙ ap (λ (rs : List Row). map (claimed rs (live past)) (told_on told (map (λ b. b.number) boards) (map (view_of (live past) known) boards))) (sym e)
    ∙ claims-told told (live past) known boards
