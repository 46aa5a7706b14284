pub mod OneWidest
