-- The state and what a seeding or a draw hands back; what keys and pieces are made of; seedings and draws; what a draw counts; facts.
pub mod State
pub mod Calls
pub mod Drng
pub mod Counts
pub mod Facts
