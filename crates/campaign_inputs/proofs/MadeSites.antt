-- Every generated site keeps to the limits.
use Rattle.std.proofs.Common.{◌≡◌, ℕ, ◌-◌, ◌^◌, ◌≤◌, List, [], ◌∷◌, length, map, refl, ◌∙◌, arith}
use Rattle.std.specs.Prelude.{All, OnOk, Result, Ok, Err, filter}
use Rattle.std.specs.List.{flat_map, range_with_len}
use Rattle.std.proofs.lemmas.List.{length-map}
use Rattle.std.proofs.lemmas.List.FromFn.{length-range_with_len}
use Rattle.std.proofs.lemmas.List.Elements.{All-append, All-cons, All-map, All-nil}
use Rattle.device_list.specs.declared.selector.Selector.{Selector}
use Rattle.update_log.specs.declared.event.Query.{Query}
use Rattle.update_log.specs.declared.facts.BootPlan.{BootPlan}
use Rattle.client_scripts.specs.declared.item.Item.{Item}
use Rattle.site_making.specs.Made.{is_board_of, made_board, made_boot, made_items, made_port, made_request, made_script, made_site}
use Rattle.site_making.proofs.MadeLaws.{can_be_settled}
use Rattle.campaign_inputs.specs.Limits.{CanBeRun, IsDone}

pub where_ok : {A E P : Type 0} (r : Result A E) → P → OnOk r P
where_ok (Ok x) p = p
where_ok (Err e) p = tt

one_of : {A : Type 0} (P : A → Type 0) (x : A) → P x → All P (x ∷ [])
one_of P x h = All-cons P x [] h (All-nil P)

count : {A : Type 0} (f : ℕ → A) (n : ℕ) → length (map f (range_with_len 1 n)) ≡ n
count f n = length-map (range_with_len 1 n) f ∙ length-range_with_len 1 n

items_done : (i : ℕ) → All IsDone (made_items i)
items_done i =
    let asks : List Item = Item.Ask (Query.Results (Selector.Port (made_port i))) ∷ [] in
    let last : All IsDone asks = one_of IsDone (Item.Ask (Query.Results (Selector.Port (made_port i)))) (tt {0}) in
    All-cons IsDone (Item.Install (made_request i)) (Item.Install (made_request i) ∷ asks) (tt {0}) (All-cons IsDone (Item.Install (made_request i)) asks (tt {0}) last)

all_done : (boards : List ℕ) → All IsDone (flat_map made_items boards)
all_done [] = All-nil IsDone
all_done (i ∷ boards) = All-append IsDone (made_items i) (flat_map made_items boards) (items_done i) (all_done boards)

scripts_done : (boards clients : ℕ) → All (All IsDone) (map (made_script boards clients) (range_with_len 1 clients))
scripts_done boards clients =
    All-map (All IsDone) (made_script boards clients) (range_with_len 1 clients)
    (λ k d lt. all_done (filter (is_board_of clients _) (range_with_len 1 boards)))

pub can_be_run : (boards clients : ℕ) → boards ≤ 256 → clients ≤ 16 → CanBeRun (made_site boards clients)
can_be_run boards clients few_boards few_clients = record {
  settled = can_be_settled boards;
  boards = rw (count made_board boards) few_boards;
  clients = rw (count {A = List (List ℕ)} (λ (c : ℕ). []) clients) few_clients;
  boots = omega arith;
  times = one_of (λ (plan : BootPlan). plan.time ≤ 2 ^ 63 - 1) made_boot (omega arith);
  pool = omega arith;
  as_many = refl;
  scripts = one_of (λ (of_boot : List (List Item)). length of_boot ≤ length (made_site boards clients).features) (map (made_script boards clients) (range_with_len 1 clients))
      (let a = count (made_script boards clients) clients in let b = count {A = List (List ℕ)} (λ (c : ℕ). []) clients in omega (arith, a, b));
  items = one_of (All (All IsDone)) (map (made_script boards clients) (range_with_len 1 clients)) (scripts_done boards clients);
}
