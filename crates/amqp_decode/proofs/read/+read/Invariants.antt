use Rattle.std.proofs.Common.{◌≡◌, [], map, ◌+◌, ◌-◌, ◌*◌, ◌/◌}
use Rattle.amqp_ser.specs.Tree.{no_pairs}
use Rattle.amqp_value.specs.TreeOf.{tree_of}
use Rattle.amqp_value.specs.MapBuilder.{collected_pairs}
use Rattle.amqp_decode.specs.Parsed.{parse, parse_content, payload_in, gather, insert}
use Rattle.amqp_decode.specs.WithoutBytes.{content_without_bytes, elements_without_bytes, in_payload, sum_of}
use Rattle.amqp_decode.specs.Faults.{fault_in, fault_in_item, fault_of_values}
use Rattle.amqp_decode.proofs.Counts.{Remains}
use Rattle.amqp_decode.proofs.read.+read.Given as goal

-- The values in a compound have a smaller depth. They are read by calls for encoded values and for
-- array elements of that depth.
abbrev pub decreases-read_item : goal.decreases-read_item
decreases-read_item l = 9 * l.depth

abbrev pub decreases-read_value : goal.decreases-read_value
decreases-read_value l = 9 * l.depth

abbrev pub decreases-push_value : goal.decreases-push_value
decreases-push_value l = 9 * l.depth

abbrev pub decreases-read_items : goal.decreases-read_items
decreases-read_items l = 9 * l.depth + 1

abbrev pub decreases-decode_list : goal.decreases-decode_list
decreases-decode_list l = 9 * l.depth + 2

abbrev pub decreases-read_entries : goal.decreases-read_entries
decreases-read_entries l = 9 * l.depth + 2

abbrev pub decreases-decode_array : goal.decreases-decode_array
decreases-decode_array l = 9 * l.depth + 2

abbrev pub decreases-read_content : goal.decreases-read_content
decreases-read_content l = 9 * l.depth + 3

abbrev pub decreases-read_named : goal.decreases-read_named
decreases-read_named l = 9 * l.depth + 4

abbrev pub decreases-read_described : goal.decreases-read_described
decreases-read_described l = 9 * l.depth + 4

abbrev pub decreases-read_after_code : goal.decreases-read_after_code
decreases-read_after_code l = 9 * l.depth + 5

-- The remaining bytes, after the elements so far, give the complete list, and contain the elements
-- without bytes that remain to be taken from the limit.
abbrev pub invariant-decode_list-loop-read : goal.invariant-decode_list-loop-read
invariant-decode_list-loop-read l = record {
  values : gather (parse l.depth) (l.count - l.read) l.rest (map tree_of l.list.items) ≡ gather (parse l.depth) l.count l.body [];
  limit : Remains l.initial.limit l.limit (sum_of (elements_without_bytes l.depth) (parse l.depth) l.count l.body)
      (sum_of (elements_without_bytes l.depth) (parse l.depth) (l.count - l.read) l.rest);
  fault : fault_of_values (fault_in l.depth) (parse l.depth) (l.count - l.read) l.rest ≡ fault_of_values (fault_in l.depth) (parse l.depth) l.count l.body;
}

abbrev pub invariant-read_entries-loop : goal.invariant-read_entries-loop
invariant-read_entries-loop l = record {
  values : insert (parse l.depth) (l.end - l.counter) l.rest (collected_pairs l.pairs) ≡ insert (parse l.depth) (l.count / 2) l.body no_pairs;
  limit : Remains l.initial.limit l.limit (sum_of (elements_without_bytes l.depth) (parse l.depth) l.count l.body)
      (sum_of (elements_without_bytes l.depth) (parse l.depth) (2 * (l.end - l.counter)) l.rest);
  fault : fault_of_values (fault_in l.depth) (parse l.depth) (2 * (l.end - l.counter)) l.rest ≡ fault_of_values (fault_in l.depth) (parse l.depth) l.count l.body;
}

abbrev pub invariant-read_items-loop : goal.invariant-read_items-loop
invariant-read_items-loop l = record {
  values : gather (payload_in (parse_content l.depth) l.code) (l.left - l.counter) l.rest (map tree_of l.items.items) ≡ gather (payload_in (parse_content l.depth) l.code) l.count l.payloads [];
  limit : Remains l.initial.limit l.limit (sum_of (in_payload (content_without_bytes l.depth) l.code) (payload_in (parse_content l.depth) l.code) l.count l.payloads)
      (sum_of (in_payload (content_without_bytes l.depth) l.code) (payload_in (parse_content l.depth) l.code) (l.left - l.counter) l.rest);
  fault : fault_of_values (fault_in_item l.depth l.code) (payload_in (parse_content l.depth) l.code) (l.left - l.counter) l.rest
      ≡ fault_of_values (fault_in_item l.depth l.code) (payload_in (parse_content l.depth) l.code) l.count l.payloads;
}
