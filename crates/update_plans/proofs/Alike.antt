-- What is decided of a request where the devices are like others: of each, the same is read.
use Rattle.std.proofs.Common.{◌≡◌, ℕ, zero, suc, ◌+◌, ◌&&◌, Bool, true, false, cond, not, nat_lt, List, [], ◌∷◌, length, position, refl, ap, ◌∙◌, subst, arith}
use Rattle.std.specs.Prelude.{Option, Some, None, find, is_some, slice_get, option_map, option_and_then, unwrap_or, if◌then◌else◌}
use Rattle.std.specs.List.{list_any, position_or_len}
use Rattle.std.specs.Str.{bytes_eq}
use Rattle.std.specs.Ordering.{is_lt}
use Rattle.std.proofs.Math.Path.{fun_ext}
use Rattle.version_formats.specs.VersionOrder.{same_version, version_cmp}
use Rattle.fw_facts.specs.declared.flags.DeviceFlag.{DeviceFlag}
use Rattle.fw_facts.specs.declared.machine.MachineFacts.{MachineFacts}
use Rattle.fw_facts.specs.declared.machine.VetoRule.{VetoRule}
use Rattle.fw_facts.specs.declared.problem.Problem.{Problem}
use Rattle.fw_facts.specs.declared.requirement.Requirement.{Requirement}
use Rattle.fw_facts.specs.declared.requirement.Test.{Test}
use Rattle.fw_facts.specs.declared.seen.Seen.{Seen}
use Rattle.fw_facts.specs.declared.sheet.Sheet.{Sheet}
use Rattle.fw_facts.specs.declared.view.DeviceView.{DeviceView}
use Rattle.fw_facts.specs.Flags.{has_all, has_flag}
use Rattle.fw_facts.specs.Machines.{test_holds}
use Rattle.fw_facts.specs.Problems.{has_problem, hindrance, refusing_problems}
use Rattle.fw_facts.specs.Views.{flags_of, guids_of, is_home, version_of}
use Rattle.requirements.specs.declared.unmet.Unmet.{Unmet}
use Rattle.requirements.specs.declared.unmet.UnmetCause.{UnmetCause}
use Rattle.requirements.specs.Requirements.{ancestor, cause, first_unmet, first_unmet_of, has_guid, of_device, of_found, of_test, of_version, parent, unless, unmet_at, vendor_passes, with_guid}
use Rattle.device_list.specs.declared.selector.Selector.{Selector}
use Rattle.device_list.specs.Lists.{names, place}
use Rattle.history_keeper.specs.declared.row.Row.{Row}
use Rattle.release_catalogue.specs.Lookup.{Chosen, chosen as chosen_for}
use Rattle.update_log.specs.declared.decision.Decision.{Decision}
use Rattle.update_log.specs.declared.decision.Stage.{Stage}
use Rattle.update_log.specs.declared.facts.Facts.{Facts}
use Rattle.update_log.specs.declared.live.LiveEntry.{LiveEntry}
use Rattle.update_log.specs.declared.refusal.Refusal.{Refusal}
use Rattle.update_log.specs.declared.refusal.RetryFault.{RetryFault}
use Rattle.update_log.specs.declared.request.Request.{Request}
use Rattle.update_log.specs.Known.{Target, row_of, target, target_at, target_of}
use Rattle.update_log.specs.Verdicts.{Case, client_for, decided, fault_of, features_for, first_refusal, is_that_release, kept, need, on_found, on_kept, on_present, on_target, out_of_size, present, refusals, refused_or, retry, row_fault, unsettled, where_home, where_so}

-- ---- devices that are like others

-- Two devices of one sheet and claim, both at home or both not, that show the same GUIDs, version and flags.
pub record Like (a b : DeviceView) : Type 0 where
  pub sheet : a.sheet ≡ b.sheet
  pub claim : a.claim ≡ b.claim
  pub home : is_home a.seen ≡ is_home b.seen
  pub guids : guids_of a ≡ guids_of b
  pub version : version_of a ≡ version_of b
  pub flags : flags_of a ≡ flags_of b

abbrev pub AllLike : List DeviceView → List DeviceView → Type 0
AllLike [] [] = Unit {0}
AllLike [] (b ∷ bs) = ⊥
AllLike (a ∷ xs) [] = ⊥
AllLike (a ∷ xs) (b ∷ ys) = Like a b × AllLike xs ys

-- Both find nothing, or devices that are alike.
abbrev pub LikeFound : Option DeviceView → Option DeviceView → Type 0
LikeFound None None = Unit {0}
LikeFound None (Some b) = ⊥
LikeFound (Some a) None = ⊥
LikeFound (Some a) (Some b) = Like a b

pub get-like : (xs ys : List DeviceView) → AllLike xs ys → (at : ℕ) → LikeFound (slice_get xs at) (slice_get ys at)
get-like [] [] l at = tt
get-like [] (b ∷ ys) l at = absurd l
get-like (a ∷ xs) [] l at = absurd l
get-like (a ∷ xs) (b ∷ ys) l zero = l.0
get-like (a ∷ xs) (b ∷ ys) l (suc at) = get-like xs ys l.1 at

-- a test that reads the same of both
abbrev Reads : (DeviceView → Bool) → Type 0
Reads p = (a b : DeviceView) → Like a b → p a ≡ p b

find-like : (p : DeviceView → Bool) (xs ys : List DeviceView) → Reads p → AllLike xs ys → LikeFound (find p xs) (find p ys)
find-like p [] [] reads l = tt
find-like p [] (b ∷ ys) reads l = absurd l
find-like p (a ∷ xs) [] reads l = absurd l
find-like p (a ∷ xs) (b ∷ ys) reads l = go (p a) (p b) (reads a b l.0) (find-like p xs ys reads l.1)
  where
    go : (s t : Bool) → s ≡ t → LikeFound (find p xs) (find p ys) → LikeFound (cond s (Some a) (find p xs)) (cond t (Some b) (find p ys))
    go true true e more = l.0
    go false false e more = more
    go true false e more = cc
    go false true e more = cc

length-like : (xs ys : List DeviceView) → AllLike xs ys → length xs ≡ length ys
length-like [] [] l = refl
length-like [] (b ∷ ys) l = absurd l
length-like (a ∷ xs) [] l = absurd l
length-like (a ∷ xs) (b ∷ ys) l = let rest = length-like xs ys l.1 in omega (arith, rest)

first-like : (p : DeviceView → Bool) (xs ys : List DeviceView) → Reads p → AllLike xs ys → position_or_len p xs ≡ position_or_len p ys
first-like p [] [] reads l = refl
first-like p [] (b ∷ ys) reads l = absurd l
first-like p (a ∷ xs) [] reads l = absurd l
first-like p (a ∷ xs) (b ∷ ys) reads l =
    ap (λ (t : Bool). cond (not t) (1 + position_or_len p xs) 0) (reads a b l.0)
    ∙ ap (λ (n : ℕ). cond (not (p b)) (1 + n) 0) (first-like p xs ys reads l.1)

position-like : (p : DeviceView → Bool) (xs ys : List DeviceView) → Reads p → AllLike xs ys → position p xs ≡ position p ys
position-like p xs ys reads l =
    ap (λ (n : ℕ). cond (nat_lt n (length xs)) (Some n) None) (first-like p xs ys reads l)
    ∙ ap (λ (n : ℕ). cond (nat_lt (position_or_len p ys) n) (Some (position_or_len p ys)) None) (length-like xs ys l)

-- ---- which device a selector finds

names-like : (selector : Selector) → Reads (names selector)
names-like (Selector.Id device) a b l = ap (λ (s : Sheet). bytes_eq device s.device) l.sheet
names-like (Selector.Guid guid) a b l = ap (λ (guids : List (List ℕ)). list_any (λ shown. bytes_eq guid shown) guids) l.guids
names-like (Selector.Port port) a b l = ap (λ (s : Sheet). bytes_eq port s.port) l.sheet

place-like : (selector : Selector) (xs ys : List DeviceView) → AllLike xs ys → place selector xs ≡ place selector ys
place-like selector xs ys l = position-like (names selector) xs ys (names-like selector) l

-- ---- requirements

has_guid-like : (guid : List ℕ) → Reads (has_guid guid)
has_guid-like guid a b l = ap (λ (guids : List (List ℕ)). list_any (λ shown. bytes_eq guid shown) guids) l.guids

parent-like : (xs ys : List DeviceView) → AllLike xs ys → (a b : DeviceView) → Like a b → LikeFound (parent xs a) (parent ys b)
parent-like xs ys l a b alike =
    subst (λ (s : Sheet). LikeFound (parent xs a) (option_and_then (λ port. find (λ other. bytes_eq port other.sheet.port) ys) s.parent)) alike.sheet (of a.sheet.parent)
  where
    of : (o : Option (List ℕ)) → LikeFound (option_and_then (λ port. find (λ other. bytes_eq port other.sheet.port) xs) o) (option_and_then (λ port. find (λ other. bytes_eq port other.sheet.port) ys) o)
    of None = tt
    of (Some port) = find-like (λ other. bytes_eq port other.sheet.port) xs ys (λ c d m. ap (λ (s : Sheet). bytes_eq port s.port) m.sheet) l

ancestor-like : (xs ys : List DeviceView) → AllLike xs ys → (depth : ℕ) (a b : DeviceView) → Like a b → LikeFound (ancestor xs depth a) (ancestor ys depth b)
ancestor-like xs ys l zero a b alike = alike
ancestor-like xs ys l (suc depth) a b alike = of (parent xs a) (parent ys b) (parent-like xs ys l a b alike) (λ c d m. ancestor-like xs ys l depth c d m)
  where
    of : (o p : Option DeviceView) → LikeFound o p → ((c d : DeviceView) → Like c d → LikeFound (ancestor xs depth c) (ancestor ys depth d)) → LikeFound (option_and_then (ancestor xs depth) o) (option_and_then (ancestor ys depth) p)
    of None None m up = tt
    of None (Some d) m up = absurd m
    of (Some c) None m up = absurd m
    of (Some c) (Some d) m up = up c d m

with_guid-like : (guid : List ℕ) (o p : Option DeviceView) → LikeFound o p → LikeFound (with_guid guid o) (with_guid guid p)
with_guid-like guid None None m = tt
with_guid-like guid None (Some d) m = absurd m
with_guid-like guid (Some c) None m = absurd m
with_guid-like guid (Some c) (Some d) m = go (has_guid guid c) (has_guid guid d) (has_guid-like guid c d m)
  where
    go : (s t : Bool) → s ≡ t → LikeFound (if s then Some c else None) (if t then Some d else None)
    go true true e = m
    go false false e = tt
    go true false e = cc
    go false true e = cc

of_device-like : (test : Option Test) (a b : DeviceView) → Like a b → of_device test a ≡ of_device test b
of_device-like test a b l = of a.claim ∙ ap (λ (claim : Option ℕ). of_device test (record { sheet = b.sheet; seen = b.seen; claim = claim })) l.claim
  where
    of : (claim : Option ℕ) → of_device test (record { sheet = a.sheet; seen = a.seen; claim = claim }) ≡ of_device test (record { sheet = b.sheet; seen = b.seen; claim = claim })
    of None = ap (of_test test) l.version
    of (Some entry) = refl

of_found-like : (test : Option Test) (otherwise : UnmetCause) (o p : Option DeviceView) → LikeFound o p → of_found test otherwise o ≡ of_found test otherwise p
of_found-like test otherwise None None m = refl
of_found-like test otherwise None (Some d) m = absurd m
of_found-like test otherwise (Some c) None m = absurd m
of_found-like test otherwise (Some c) (Some d) m = of_device-like test c d m

cause-like : (machine : MachineFacts) (features : List (List ℕ)) (xs ys : List DeviceView) → AllLike xs ys → (a b : DeviceView) → Like a b → (r : Requirement) → cause machine features xs a r ≡ cause machine features ys b r
cause-like machine features xs ys l a b alike (Requirement.Firmware test) = ap (of_version test UnmetCause.VersionCompare) alike.version
cause-like machine features xs ys l a b alike (Requirement.Bootloader test) = ap (λ (s : Sheet). of_version test UnmetCause.NoBootloaderVersion s.bootloader) alike.sheet
cause-like machine features xs ys l a b alike (Requirement.VendorId test) = ap (λ (s : Sheet). unless (list_any (vendor_passes test) s.vendor_ids) UnmetCause.VendorMismatch) alike.sheet
cause-like machine features xs ys l a b alike (Requirement.Device guid test) =
    of_found-like test UnmetCause.NoSuchDevice (find (has_guid guid) xs) (find (has_guid guid) ys) (find-like (has_guid guid) xs ys (has_guid-like guid) l)
cause-like machine features xs ys l a b alike (Requirement.Ancestor depth guid test) =
    of_found-like test UnmetCause.NoSuchAncestor (with_guid guid (ancestor xs depth a)) (with_guid guid (ancestor ys depth b)) (with_guid-like guid (ancestor xs depth a) (ancestor ys depth b) (ancestor-like xs ys l depth a b alike))
cause-like machine features xs ys l a b alike _ = refl

unmet-like : (machine : MachineFacts) (features : List (List ℕ)) (xs ys : List DeviceView) → AllLike xs ys → (at : ℕ) (list : List Requirement) → first_unmet machine features xs at list ≡ first_unmet machine features ys at list
unfolding first_unmet
unmet-like machine features xs ys l at list = of (slice_get xs at) (slice_get ys at) (get-like xs ys l at)
  where
    of : (o p : Option DeviceView) → LikeFound o p → option_and_then (λ view. first_unmet_of machine features xs view list) o ≡ option_and_then (λ view. first_unmet_of machine features ys view list) p
    of None None m = refl
    of None (Some d) m = absurd m
    of (Some c) None m = absurd m
    of (Some c) (Some d) m =
        ap (λ (why : Requirement → Option UnmetCause). option_and_then (unmet_at why list) (position (λ r. is_some (why r)) list)) (fun_ext (cause-like machine features xs ys l c d m))

-- ---- problems

problem-like : (machine : MachineFacts) (a b : DeviceView) → Like a b → (problem : Problem) → has_problem machine a None problem ≡ has_problem machine b None problem
problem-like machine a b l Problem.SystemPowerTooLow = refl
problem-like machine a b l Problem.Unreachable = ap (λ (s : Sheet). s.unreachable) l.sheet
problem-like machine a b l Problem.PowerTooLow = ap (λ (s : Sheet). s.power_low) l.sheet
problem-like machine a b l Problem.UpdatePending = refl
problem-like machine a b l Problem.RequireAcPower = ap (λ (flags : List Bool). has_flag DeviceFlag.RequireAc flags && not machine.on_ac) l.flags
problem-like machine a b l Problem.LidIsClosed = ap (λ (s : Sheet). s.lid && machine.lid_closed) l.sheet
problem-like machine a b l Problem.UpdateInProgress = ap (λ (claim : Option ℕ). is_some claim) l.claim

hindrance-like : (machine : MachineFacts) (a b : DeviceView) → Like a b → hindrance machine a ≡ hindrance machine b
hindrance-like machine a b l = ap (λ (p : Problem → Bool). find p refusing_problems) (fun_ext (problem-like machine a b l))

-- ---- targets

-- Both requests find nothing, or one release for devices at one place that are alike.
pub data SameTarget : Option Target → Option Target → Type 0 where
  Neither : SameTarget None None
  Both : (at : ℕ) (a b : DeviceView) (chosen : Chosen) → Like a b
      → SameTarget (Some (record { place = at; view = a; chosen = chosen })) (Some (record { place = at; view = b; chosen = chosen }))

pub target-like : (facts : Facts) (xs ys : List DeviceView) → AllLike xs ys → (request : Request) → SameTarget (target facts xs request) (target facts ys request)
target-like facts xs ys l request =
    subst (λ (o : Option ℕ). SameTarget (target facts xs request) (option_and_then (target_at facts ys request.version) o)) (place-like request.device xs ys l) (at_place (place request.device xs))
  where
    of_chosen : (at : ℕ) (a b : DeviceView) → Like a b → (o : Option Chosen)
        → SameTarget (option_map (λ (c : Chosen). record { place = at; view = a; chosen = c }) o) (option_map (λ (c : Chosen). record { place = at; view = b; chosen = c }) o)
    of_chosen at a b m None = Neither
    of_chosen at a b m (Some c) = Both at a b c m

    of_view : (at : ℕ) (o p : Option DeviceView) → LikeFound o p → SameTarget (option_and_then (target_of facts request.version at) o) (option_and_then (target_of facts request.version at) p)
    of_view at None None m = Neither
    of_view at None (Some b) m = absurd m
    of_view at (Some a) None m = absurd m
    of_view at (Some a) (Some b) m =
        subst (λ (guids : List (List ℕ)). SameTarget (target_of facts request.version at a) (option_map (λ (c : Chosen). record { place = at; view = b; chosen = c }) (chosen_for facts.catalogue guids request.version))) m.guids
        (of_chosen at a b m (chosen_for facts.catalogue (guids_of a) request.version))

    at_place : (o : Option ℕ) → SameTarget (option_and_then (target_at facts xs request.version) o) (option_and_then (target_at facts ys request.version) o)
    at_place None = Neither
    at_place (Some at) = of_view at (slice_get xs at) (slice_get ys at) (get-like xs ys l at)

-- ---- decisions

cons-same : {X : Type 0} {x y : X} {xs ys : List X} → x ≡ y → xs ≡ ys → (x ∷ xs) ≡ (y ∷ ys)
cons-same {X} {x} {y} {xs} {ys} e f = ap (λ (z : X). z ∷ xs) e ∙ ap (λ (zs : List X). y ∷ zs) f

module _ (facts : Facts) (xs ys : List DeviceView) (l : AllLike xs ys) (rows : List Row) (live : List LiveEntry) (held client : ℕ) (request : Request) (stage : Stage) where
  abbrev pub one : Case
  one = record { facts = facts; views = xs; rows = rows; live = live; held = held; client = client; request = request; stage = stage }

  abbrev pub other : Case
  other = record { facts = facts; views = ys; rows = rows; live = live; held = held; client = client; request = request; stage = stage }

  module _ (at : ℕ) (a b : DeviceView) (chosen : Chosen) (m : Like a b) where
    abbrev t : Target
    t = record { place = at; view = a; chosen = chosen }

    abbrev u : Target
    u = record { place = at; view = b; chosen = chosen }

    -- the target with that sheet, where no more of the device is read
    abbrev of_sheet : Sheet → Target
    of_sheet s = record { place = at; view = record { sheet = s; seen = Seen.Gone; claim = None }; chosen = chosen }

    -- a retry's fault is that of its row, of which the device's sheet alone is read
    fault-like : (entry : ℕ) (row : Option Row) → fault_of one t entry row ≡ fault_of other u entry row
    fault-like entry None = refl
    fault-like entry (Some r) = ap (λ (s : Sheet). row_fault one (of_sheet s) entry r) m.sheet

    retry-like : retry one t ≡ retry other u
    retry-like =
        ap (λ (f : ℕ → Option RetryFault). option_map (λ fault. Refusal.Retry fault) (option_and_then f request.retry_of))
        (fun_ext (λ entry. fault-like entry (row_of rows entry)))

    refusals-like : refusals one t ≡ refusals other u
    refusals-like =
        cons-same (ap (λ (claim : Option ℕ). option_map (λ entry. Refusal.Busy entry) claim) m.claim)
        (cons-same (ap (λ (s : Sheet). unsettled one (of_sheet s)) m.sheet)
        (cons-same retry-like
        (cons-same (ap (λ (flags : List Bool). where_so (not (has_flag DeviceFlag.Updatable flags)) Refusal.NotUpdatable) m.flags)
        (cons-same (ap (λ (flags : List Bool). where_so (has_flag DeviceFlag.Locked flags) Refusal.Locked) m.flags)
        (cons-same (ap (option_map (λ problem. Refusal.Problem problem)) (hindrance-like facts.machine a b m))
        (cons-same (ap (λ (v : Option (List ℕ)). where_so (same_version chosen.release.version (unwrap_or v []) && not request.flags.allow_reinstall) Refusal.SameVersion) m.version)
        (cons-same (ap (λ (v : Option (List ℕ)). where_so (is_lt (version_cmp chosen.release.version (unwrap_or v [])) && not request.flags.allow_older) Refusal.Older) m.version)
        (cons-same (ap (option_map (λ u. Refusal.Unmet u)) (unmet-like facts.machine (features_for facts (client_for one)) xs ys l at chosen.component.requirements))
        (cons-same (ap (λ (flags : List Bool). option_map (λ v. Refusal.Veto v.plugin) (find (λ v. list_any (λ (rule : VetoRule). test_holds rule.when facts.machine && has_all rule.flags flags) v.rules) facts.vetoes)) m.flags)
        (cons-same (ap (λ (s : Sheet). out_of_size one (of_sheet s)) m.sheet) refl))))))))))

    on_target-like : on_target one t ≡ on_target other u
    on_target-like = ap (λ (all : List (Option Refusal)). refused_or (first_refusal all) (Decision.Accept at chosen.at (need t))) refusals-like

    on_found-both : on_found one (Some t) ≡ on_found other (Some u)
    on_found-both = ap (λ (d : Decision). if is_that_release one chosen then d else Decision.Refused Refusal.NoRelease) on_target-like

  on_found-like : (o p : Option Target) → SameTarget o p → on_found one o ≡ on_found other p
  on_found-like _ _ Neither = refl
  on_found-like _ _ (Both at a b chosen m) = on_found-both at a b chosen m

  home-like : (at : ℕ) (o p : Option DeviceView) → LikeFound o p → option_and_then (λ view. if is_home view.seen then Some at else None) o ≡ option_and_then (λ view. if is_home view.seen then Some at else None) p
  home-like at None None m = refl
  home-like at None (Some b) m = absurd m
  home-like at (Some a) None m = absurd m
  home-like at (Some a) (Some b) m = ap (λ (t : Bool). if t then Some at else None) m.home

  present-like : present one ≡ present other
  present-like =
      ap (λ (f : ℕ → Option ℕ). option_and_then f (place request.device xs)) (fun_ext (λ at. home-like at (slice_get xs at) (slice_get ys at) (get-like xs ys l at)))
      ∙ ap (option_and_then (where_home other)) (place-like request.device xs ys l)

  on_present-like : (o : Option ℕ) → on_present one o ≡ on_present other o
  on_present-like None = refl
  on_present-like (Some at) = on_found-like (target facts xs request) (target facts ys request) (target-like facts xs ys l request)

  on_kept-like : (o : Option Row) → on_kept one o ≡ on_kept other o
  on_kept-like None = ap (on_present one) present-like ∙ on_present-like (present other)
  on_kept-like (Some row) = refl

  -- So the same is decided.
  pub decided-like : decided one ≡ decided other
  decided-like = on_kept-like (kept one)
