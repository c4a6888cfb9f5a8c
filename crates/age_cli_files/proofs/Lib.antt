pub mod OutcomeLemmas
pub use OutcomeLemmas.{all_as, all_by, came_one, came_then, created_absent, did_ended, does_none, does_only, does_same, does_then}
pub use OutcomeLemmas.{gave_by, gave_puts, given_as, grows_by, grows_none, grows_so, grows_then, looked_came, looked_does, made_does}
pub use OutcomeLemmas.{opened_came, opened_does, puts_then, settled_does, then_came}
