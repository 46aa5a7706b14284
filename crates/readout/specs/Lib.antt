-- where the greatest times of the last resets before the start are looked for from, and what is found
pub mod Late
