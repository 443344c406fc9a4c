pub mod WritesOut
