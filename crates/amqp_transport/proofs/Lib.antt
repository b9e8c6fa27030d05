pub mod FrameLemmas
