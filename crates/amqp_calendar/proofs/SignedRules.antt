-- Rules for signed numbers in `omega`, which reads z as `up z - down z`.
use borrow.Author.Differences.{fits_out, same_out, Apart-out, lt_T, le_T, lt_not, le_not, not_negative_out, lt_out, le_out, same_in, lt_in, le_in, sum_is_lem, neg_is}

pub ruleset signed = (fits_out, same_out, Apart-out, lt_T, le_T, lt_not, le_not, not_negative_out, lt_out, le_out, same_in, lt_in, le_in, sum_is_lem, neg_is)
