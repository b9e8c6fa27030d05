use Rattle.std.proofs.Common.{◌≡◌, ◌≤◌, ◌+◌, ◌-◌, ◌*◌, length}
use Rattle.amqp_decode.specs.Parsed.{parse, parse_content, payload_in}
use Rattle.amqp_decode.specs.Places.{skips, place_in, place_in_item, place_of_values}
use Rattle.amqp_decode.proofs.skip.+skip.Given as goal

-- The values in a compound have a smaller depth.
abbrev pub decreases-skip_value : goal.decreases-skip_value
decreases-skip_value l = 9 * l.depth + 6

abbrev pub decreases-skip_described : goal.decreases-skip_described
decreases-skip_described l = 9 * l.depth + 5

abbrev pub decreases-skip_item : goal.decreases-skip_item
decreases-skip_item l = 9 * l.depth + 6

abbrev pub decreases-skip_payload : goal.decreases-skip_payload
decreases-skip_payload l = 9 * l.depth + 5

abbrev pub decreases-check_content : goal.decreases-check_content
decreases-check_content l = 9 * l.depth + 9

abbrev pub decreases-check_array : goal.decreases-check_array
decreases-check_array l = 9 * l.depth + 8

abbrev pub decreases-check_values : goal.decreases-check_values
decreases-check_values l = 9 * l.depth + 7

abbrev pub decreases-check_items : goal.decreases-check_items
decreases-check_items l = 9 * l.depth + 7

-- The remaining bytes, after the values so far, leave what all bytes leave and have their fault.
abbrev pub invariant-check_values-loop : goal.invariant-check_values-loop
invariant-check_values-loop l = record {
  kept : skips (parse l.depth) (l.count - l.counter) l.rest ≡ skips (parse l.depth) l.count l.body;
  from_end : place_of_values (place_in l.depth) (parse l.depth) l.depth (l.count - l.counter) l.after l.rest
      ≡ place_of_values (place_in l.depth) (parse l.depth) l.depth l.count l.after l.body;
  shorter : length l.rest ≤ length l.body;
}

abbrev pub invariant-check_items-loop : goal.invariant-check_items-loop
invariant-check_items-loop l = record {
  kept : skips (payload_in (parse_content l.depth) l.code) (l.count - l.counter) l.rest ≡ skips (payload_in (parse_content l.depth) l.code) l.count l.payloads;
  from_end : place_of_values (place_in_item l.depth l.code) (payload_in (parse_content l.depth) l.code) l.depth (l.count - l.counter) l.after l.rest
      ≡ place_of_values (place_in_item l.depth l.code) (payload_in (parse_content l.depth) l.code) l.depth l.count l.after l.payloads;
  shorter : length l.rest ≤ length l.payloads;
}
