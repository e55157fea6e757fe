use Rattle.std.proofs.Common.{◌≡◌, drop, length, []}
use Rattle.json_values.specs.Trees.{items_view}
use Rattle.release_catalogue.specs.declared.spot.Level.TheVariants.{First}
use Rattle.release_catalogue.specs.declared.word.Word.TheVariants as words
use Rattle.release_catalogue.specs.Reading.{each, entry_spot}
use Rattle.site_scripts.specs.Clients.{client_at}
use Rattle.site_scripts.specs.Places.{spot_in}
use Rattle.site_scripts.proofs.clients.each_client.Given as goal

abbrev pub invariant-loop-i : goal.invariant-loop-i
invariant-loop-i l = record {
  rest : each (λ _. client_at) (entry_spot (spot_in words.Clients words.Entry) First) l.read.items (items_view (drop l.i l.values))
      ≡ each (λ _. client_at) (entry_spot (spot_in words.Clients words.Entry) First) [] (items_view l.values);
  count : length l.read.items ≡ l.i;
}
