pub mod Queued
pub mod Named
pub mod Refused
pub mod Starts
pub mod First
pub mod Rules
